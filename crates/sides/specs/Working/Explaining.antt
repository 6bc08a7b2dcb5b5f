-- Departure B atom by atom: what the working functions require and do.
use Rattle.std.specs.Prelude.{◌≡◌, true, false, List, ℕ, eqb, if◌then◌else◌}
use Rattle.records.specs.Store.{Term, Work, ◌>>=◌, give, store, term_in, root_in, is_constant}
use Rattle.engine.specs.Explain.{explain}

-- a term that is no constant is of v's class
pub record OneClass (ts : List Term) (u v : ℕ) : Type 0 where
  pub class : eqb (term_in ts u).kind 1 ≡ false → eqb (root_in ts u) (root_in ts v) ≡ true

-- a constant needs no reason
unfoldable pub explain_atom : ℕ → ℕ → Work (Unit {0})
explain_atom u v = do
  s ← store
  if is_constant s u then give tt else explain u v
