use Rattle.sides.proofs.Refines.LackingSides.{Looked}
use Rattle.sides.proofs.lacking.lacks_text.Given as goal

abbrev pub invariant-loop-j : goal.invariant-loop-j
invariant-loop-j l = Looked l.chars l.n l.p l.k l.initial.table l.table l.j
