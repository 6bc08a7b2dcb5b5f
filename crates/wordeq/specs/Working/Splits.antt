-- Working definitions: the atoms of step 7, one at a time.
use Rattle.std.specs.Prelude.{List, [], ◌∷◌, ℕ, take, Result, Ok, Err}
use Rattle.records.specs.declared.State.{State}
use Rattle.records.specs.declared.refusal.Refusal.{Refusal}
use Rattle.records.specs.Refusal.{number}
use Rattle.records.specs.Store.{Out, ok, stop, Work, ◌>>=◌, give}
use Rattle.records.specs.View.{Lent, store_of}
use Rattle.records.specs.Make.{make_constant, make_concat, make_length, make_equation}
use Rattle.sides.specs.Wordeq.{fresh_variable}

-- the atoms answered, from the start of the list
abbrev pub listed : Result (ℕ × State) Refusal → Lent → List ℕ → Out (List ℕ)
listed (Ok x) m l = ok (store_of m x.1) (take x.0 l)
listed (Err e) m l = stop (number e)

-- v = h ++ z
unfoldable pub prefix_atom : ℕ → ℕ → Work ℕ
prefix_atom v h = do
  z ← fresh_variable
  t ← make_concat (h ∷ z ∷ [])
  make_equation v t

-- v = ""
unfoldable pub empty_atom : ℕ → Work ℕ
empty_atom v = do
  e ← make_constant []
  make_equation v e

-- v = c ++ z
unfoldable pub character_atom : ℕ → ℕ → Work ℕ
character_atom v c = do
  h ← make_constant (c ∷ [])
  prefix_atom v h

-- equal lengths
unfoldable pub lengths_atom : ℕ → ℕ → Work ℕ
lengths_atom a b = do
  la ← make_length a
  lb ← make_length b
  make_equation la lb

unfoldable pub character_atoms : ℕ → ℕ → Work (List ℕ)
character_atoms v c = do
  p ← empty_atom v
  q ← character_atom v c
  give (p ∷ q ∷ [])

-- both prefixes, after an atom p
unfoldable pub prefix_atoms : ℕ → ℕ → ℕ → Work (List ℕ)
prefix_atoms p a b = do
  q₁ ← prefix_atom a b
  q₂ ← prefix_atom b a
  give (p ∷ q₁ ∷ q₂ ∷ [])

unfoldable pub head_atoms : ℕ → ℕ → Work (List ℕ)
head_atoms a b = do
  p ← lengths_atom a b
  prefix_atoms p a b
