use Rattle.records.proofs.Refines.Texts.{Agreed}
use Rattle.records.proofs.text.text_past.Given as goal

abbrev pub invariant-loop-i : goal.invariant-loop-i
invariant-loop-i l = Agreed l.chars l.w l.at l.i
