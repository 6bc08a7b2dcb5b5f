use Rattle.classes.proofs.Refines.Trails.{Backward}
use Rattle.classes.proofs.trail.undo_to_unchecked.Given as goal

abbrev pub invariant-loop-j : goal.invariant-loop-j
invariant-loop-j l = Backward l.initial.terms l.terms l.n l.marks l.joins l.first l.j
