use Rattle.records.proofs.Refines.Puts.{Chained}
use lib.ListN.{length}
use Prim.Native.Nat.{◌+◌}
use mathlib.Core.Path.{◌≡◌}
use Rattle.records.proofs.put.put_chain_unchecked.Given as goal

abbrev pub invariant-loop-i : goal.invariant-loop-i
invariant-loop-i l = (l.last + 1 ≡ length l.l) × Chained l.initial.cells l.cells l.n l.l l.i
