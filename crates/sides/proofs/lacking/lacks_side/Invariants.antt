use Rattle.records.specs.View.{read_in}
use Rattle.sides.proofs.Refines.LackingSides.{Found}
use Rattle.sides.proofs.lacking.lacks_side.Given as goal

abbrev pub invariant-loop-a : goal.invariant-loop-a
invariant-loop-a l = Found (read_in l.terms l.chars l.c) l.chars l.c.chars l.l l.initial.table l.table l.a-index
