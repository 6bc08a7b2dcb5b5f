-- Working definitions: a list in the first words of a lent slice, atom by atom.
use Rattle.std.specs.Prelude.{◌≡◌, Bool, true, false, ◌&&◌, List, [], ◌∷◌, reverse, ℕ, eqb, Result, Ok, Err, if◌then◌else◌}
use Rattle.records.specs.Lists.{all}
use Rattle.records.specs.Store.{Term, Store, Out, ok, stop, Work, ◌>>=◌, give, term_in, is_string}
use Rattle.records.specs.View.{Lent, store_of}
use Rattle.engine.specs.Explain.{explain}
use Rattle.normalize.specs.Normalize.{push}
use Rattle.normalize.specs.Working.Nodes.{is_constant_in, NodeOf}
use Rattle.normalize.specs.Calls.{first_words}
use Rattle.records.specs.declared.State.{State}
use Rattle.records.specs.declared.refusal.Refusal.{Refusal}
use Rattle.records.specs.Refusal.{number}

-- a list in the first words of a slice, last atom first
abbrev pub pushed : Result (ℕ × State) Refusal → Lent → List ℕ → Out (List ℕ)
pushed (Ok x) m l = ok (store_of m x.1) (reverse (first_words l x.0))
pushed (Err e) m l = stop (number e)

-- string terms, and their table
pub record Candidates (s : Store) (l table : List ℕ) : Type 0 where
  pub strings : all (is_string s) l ≡ true
  pub nodes : NodeOf s.terms l table

-- "": a constant of no characters
unfoldable pub is_empty_in : List Term → ℕ → Bool
is_empty_in ts t = is_constant_in ts t && eqb (term_in ts t).second 0

-- the atom and the one before it are constants
unfoldable pub joins_in : List Term → ℕ → List ℕ → Bool
joins_in ts t [] = false
joins_in ts t (u ∷ out) = is_constant_in ts t && is_constant_in ts u

-- 'Explain (atom, representative) where they differ'
unfoldable pub cite : ℕ → ℕ → Work (Unit {0})
cite a r = if eqb r a then give tt else explain a r

-- an atom replaced by r, then dropped or joined
unfoldable pub push_for : ℕ → ℕ → List ℕ → Work (List ℕ)
push_for a r out = cite a r >>= (λ u. push r out)
