use Prim.Native.Nat.{◌-◌}
use lib.ListN.{length}
use Rattle.records.specs.View.{termed}
use Rattle.sides.proofs.Refines.Elsewhere.{Seeking}
use Rattle.sides.proofs.occurring.find.Given as goal

abbrev pub invariant-loop-i : goal.invariant-loop-i
invariant-loop-i l = Seeking (termed l.terms l.c) l.x l.l l.i

abbrev pub decreases-loop-i : goal.decreases-loop-i
decreases-loop-i l = length l.l - l.i
