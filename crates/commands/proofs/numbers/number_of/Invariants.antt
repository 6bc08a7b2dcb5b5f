use Rattle.commands.proofs.Numbering.{Read}
use Rattle.commands.proofs.numbers.number_of.Given as goal

abbrev pub invariant-loop-b : goal.invariant-loop-b
invariant-loop-b l = Read l.limit l.w l.x l.b-index
