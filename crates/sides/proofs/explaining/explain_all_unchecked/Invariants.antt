use Rattle.sides.proofs.Refines.ExplainingEach.{Citing}
use Rattle.sides.proofs.explaining.explain_all_unchecked.Given as goal

abbrev pub invariant-loop-u : goal.invariant-loop-u
invariant-loop-u l = Citing l.terms l.cells l.chars l.keys l.side l.v l.initial.d l.initial.reasons l.d l.reasons l.u-index
