use Rattle.records.specs.Working.Indexing.{Tests}
use Rattle.records.proofs.Refines.IndexWalks.{Onwards, Walking, to_meet}
use mathlib.Core.Bool.{Bool}
use Prim.Native.Nat.{ℕ}
use Rattle.records.proofs.make.first_in.Given as goal

abbrev pub invariant-loop-t : goal.invariant-loop-t
invariant-loop-t g l = Onwards l.terms l.n l.t × ((p : ℕ → Bool) → Tests (goal.F-post g l.passes) p → Walking l.terms l.n l.b p l.t)

abbrev pub decreases-loop-t : goal.decreases-loop-t
decreases-loop-t g l = to_meet l.n l.t
