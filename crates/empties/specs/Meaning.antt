-- What the answer is worth. Document 02, Note 3: the variables that 'must still become ""'.
use Rattle.std.specs.Prelude.{◌≡◌, true, List, [], ℕ}
use Rattle.records.specs.Lists.{all, concat_map, Every}
use Rattle.records.specs.Store.{Store, is_variable}
use Rattle.records.specs.Make.{constant_of}
use Rattle.records.specs.Meaning.{Words, Reading}
use Rattle.empties.specs.Empties.{is_label, Parts}

-- s is the store at entry, s' that at exit. Each listed variable is one of the store at entry and, if the sides have equal words, has the
-- word of the term answered with it: for lists of the form that is a "". No merge and no reason has to hold for it
pub record Becomes (s s' : Store) (l r : List ℕ) (x : Parts) : Type 0 where
  pub variables : all (is_variable s) x.listed ≡ true
  pub equal : (w : Words) → Reading s' w → concat_map w l ≡ concat_map w r → Every (λ v. w v ≡ w x.empty) x.listed
  pub empty : is_label s l r ≡ true → constant_of [] s' x.empty ≡ true
