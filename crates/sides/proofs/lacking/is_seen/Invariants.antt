use Rattle.sides.proofs.Refines.LackingPlaces.{Unseen}
use Rattle.sides.proofs.lacking.is_seen.Given as goal

abbrev pub invariant-loop-i : goal.invariant-loop-i
invariant-loop-i l = Unseen l.chars l.table l.n l.x l.i
