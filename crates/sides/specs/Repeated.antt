-- Document 02, Note 8: one repeated field, decided exactly.
use Rattle.std.specs.Prelude.{◌≡◌, true, not, ◌||◌, List, ◌⊎◌, ℕ, eqb}
use Rattle.records.specs.Lists.{all, concat_map, is_in}
use Rattle.records.specs.Store.{Store, Out, ok, stop, is_constant, is_variable, same_class}
use Rattle.records.specs.Rules.{each_term}
use Rattle.records.specs.Meaning.{Words, Reading}
use Rattle.records.specs.Calls.{writes_nothing}
use Rattle.sides.specs.Wordeq.{Answer, conflict}

-- a side of constants, and a label in which the field v stands once or more
pub record OneField (s : Store) (v : ℕ) (side label : List ℕ) : Type 0 where
  -- 'Let one side hold constants only': the empty list does
  pub constants : all (is_constant s) side ≡ true
  -- 'and the other constants and .. one variable, no concatenation on either'
  pub entries : all (λ t. is_constant s t || eqb t v) label ≡ true
  -- 'at least one occurrence'
  pub occurs : is_in v label ≡ true
  pub variable : is_variable s v ≡ true
  -- 'Let that variable be alone in its class'
  pub alone : each_term s (λ t. eqb t v || not (same_class s t v)) ≡ true

-- either side may be the label
abbrev pub Repeated : Store → ℕ → List ℕ → List ℕ → Type 0
Repeated s v l r = OneField s v l r ⊎ OneField s v r l

-- words with which the sides are equal; of the variables these sides hold one alone
pub record Word (s : Store) (l r : List ℕ) : Type 0 where
  pub words : Words
  pub reading : Reading s words
  pub equal : concat_map words l ≡ concat_map words r

-- 'no word for the variable makes the sides equal': whatever words the variables have
abbrev pub NoWord : Store → List ℕ → List ℕ → Type 0
NoWord s l r = (w : Words) → Reading s w → concat_map w l ≡ concat_map w r → ⊥

-- 'in a call refused neither under 1 to 5'
abbrev pub Worked : Out Answer → Type 0
Worked o = (k : ℕ) → o ≡ stop k → writes_nothing k → ⊥

-- 'Conflict is the answer exactly when no word for the variable makes the sides equal'; every other answer, and every refusal met at work,
-- comes only where there is such a word
pub record Decides (s : Store) (l r : List ℕ) (o : Out Answer) : Type 0 where
  pub says : (s' : Store) → o ≡ ok s' conflict → NoWord s l r
  pub exactly : NoWord s l r → (s' : Store) × (o ≡ ok s' conflict)
  pub otherwise : ((s' : Store) → o ≡ ok s' conflict → ⊥) → Word s l r
