use Rattle.sides.proofs.Refines.Pairs.{Pairing}
use Rattle.sides.proofs.stripping.explain_pairs.Given as goal

abbrev pub invariant-loop-i : goal.invariant-loop-i
invariant-loop-i l = Pairing l.terms l.cells l.chars l.keys l.lhs l.rhs l.tail l.initial.d l.initial.reasons l.d l.reasons l.i
