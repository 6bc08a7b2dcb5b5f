use Rattle.records.proofs.Refines.JoinedTexts.{Joined}
use Rattle.records.proofs.text.put_joined_unchecked.Given as goal

abbrev pub invariant-loop-i : goal.invariant-loop-i
invariant-loop-i l = Joined l.terms l.initial.chars l.list l.to l.chars l.held l.i
