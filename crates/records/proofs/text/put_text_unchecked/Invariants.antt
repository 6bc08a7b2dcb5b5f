use Rattle.records.proofs.Refines.Texts.{Copied}
use Rattle.records.proofs.text.put_text_unchecked.Given as goal

abbrev pub invariant-loop-i : goal.invariant-loop-i
invariant-loop-i l = Copied l.initial.chars l.chars l.at l.w l.i
