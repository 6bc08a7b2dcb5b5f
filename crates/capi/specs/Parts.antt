-- What the exported call for every empty part promises.
use Rattle.std.specs.Prelude.{◌≡◌, List, [], ◌∷◌, ℕ, length, get_or, eqb}
use Rattle.records.specs.Store.{stop}
use Rattle.records.specs.View.{Lent, store_of}
use Rattle.records.specs.Calls.{writes_nothing}
use Rattle.normalize.specs.Calls.{first_words, list_call}
use Rattle.wordeq.specs.Calls.{equal_arguments}
use Rattle.empties.specs.Empties.{Parts, empty_parts}
use Rattle.empties.specs.Meaning.{Becomes}
use Rattle.empties.specs.Repeats.{Repeats}
use Rattle.capi.specs.Interface.{state_of, state_room, roomy, over, told, AnsweredList}
use Rattle.capi.specs.Equations.{flag}

-- the count, the number of "" and the link flag into words 0 to 2; the variables stand first in the list's slice
abbrev pub parts_words : Parts → List ℕ
parts_words x = length x.listed ∷ x.empty ∷ flag x.link ∷ []

-- the answer that the words a and the list's slice l give
abbrev pub parts_read : List ℕ → List ℕ → Parts
parts_read l a = record { empty = get_or a 1 0; listed = first_words l (get_or a 0 0); link = eqb (get_or a 2 0) 1 }

-- empty_parts told in words; where 1 to 5 do not refuse, it is what repeated calls give; and what it is worth: if the sides have equal words,
-- each listed variable has the word of ""
pub record ExportedParts (l r : List ℕ) (m m' : Lent) (k k' w w' a a' : List ℕ) (n : ℕ) : Type 0 where
  pub is : AnsweredList (over (roomy state_room w a) (list_call k (equal_arguments l r) (empty_parts l r) m (state_of w))) parts_words m m' k k' w w' a a' (parts_read k' a') n
  pub repeats : ((j : ℕ) → told n w' m' (parts_read k' a') ≡ stop j → writes_nothing j → ⊥) → Repeats (store_of m (state_of w)) l r (told n w' m' (parts_read k' a'))
  pub worth : n ≡ 0 → Becomes (store_of m (state_of w)) (store_of m' (state_of w')) l r (parts_read k' a')
