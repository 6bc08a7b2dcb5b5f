-- What the call for every empty part promises.
use Rattle.std.specs.Prelude.{◌≡◌, List, ℕ, Result, Ok, Err}
use Rattle.records.specs.declared.State.{State}
use Rattle.records.specs.declared.refusal.Refusal.{Refusal}
use Rattle.records.specs.Refusal.{number}
use Rattle.records.specs.Store.{Store, Out, ok, stop}
use Rattle.records.specs.View.{Lent, store_of}
use Rattle.records.specs.Calls.{writes_nothing}
use Rattle.normalize.specs.Calls.{first_words, list_call, PublicList}
use Rattle.wordeq.specs.Calls.{equal_arguments}
use Rattle.empties.specs.declared.Empties.{Empties}
use Rattle.empties.specs.Empties.{Parts, empty_parts}
use Rattle.empties.specs.Meaning.{Becomes}
use Rattle.empties.specs.Repeats.{Repeats}

-- the answer: the variables are the first words of the list's slice k
abbrev pub listed : Result Empties Refusal → Lent → List ℕ → Out Parts
listed (Ok x) m k = ok (store_of m x.state) (record { empty = x.empty; listed = first_words k x.listed; link = x.link })
listed (Err e) m k = stop (number e)

-- its answer, with every refusal; where 1 to 5 do not refuse, it is what repeated calls give; and what it is worth: if the sides have equal
-- words, each listed variable has the word of ""
pub record PublicEmpties (l r : List ℕ) (m m' : Lent) (k k' : List ℕ) (c : State) (o : Out Parts) : Type 0 where
  pub is : PublicList (list_call k (equal_arguments l r) (empty_parts l r) m c) m m' k k' c o
  pub repeats : ((j : ℕ) → o ≡ stop j → writes_nothing j → ⊥) → Repeats (store_of m c) l r o
  pub worth : (s' : Store) (x : Parts) → o ≡ ok s' x → Becomes (store_of m c) s' l r x
