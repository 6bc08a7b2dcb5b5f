use Rattle.records.proofs.Refines.JoinedTexts.{Matched}
use Rattle.records.proofs.text.joined_is_unchecked.Given as goal

abbrev pub invariant-loop-t : goal.invariant-loop-t
invariant-loop-t l = Matched l.terms l.chars l.list l.p l.at l.t-index
