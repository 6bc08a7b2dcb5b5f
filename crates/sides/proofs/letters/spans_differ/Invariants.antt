use Rattle.sides.proofs.Refines.SideTexts.{Alike}
use Rattle.sides.proofs.letters.spans_differ.Given as goal

abbrev pub invariant-loop-j : goal.invariant-loop-j
invariant-loop-j l = Alike l.chars l.p l.n l.q l.m l.j
