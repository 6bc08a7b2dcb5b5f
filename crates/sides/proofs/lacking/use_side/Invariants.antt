use Rattle.sides.proofs.Refines.LackingSides.{UsingSide}
use Rattle.sides.proofs.lacking.use_side.Given as goal

abbrev pub invariant-loop-a : goal.invariant-loop-a
invariant-loop-a l = UsingSide l.terms l.c l.l l.initial.table l.table l.a-index
