use Rattle.commands.proofs.Numbering.{Passed}
use Rattle.commands.proofs.numbers.field_end.Given as goal

abbrev pub invariant-loop-i : goal.invariant-loop-i
invariant-loop-i l = Passed l.line l.at l.i
