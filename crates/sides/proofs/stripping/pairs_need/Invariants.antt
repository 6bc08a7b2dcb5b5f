use Rattle.records.specs.View.{lent, read_in}
use Rattle.sides.specs.Wordeq.{same_heads}
use Rattle.sides.specs.Working.Stripping.{way}
use Rattle.sides.proofs.Refines.Stripping.{Needing}
use Rattle.sides.proofs.stripping.pairs_need.Given as goal

abbrev pub invariant-loop-i : goal.invariant-loop-i
invariant-loop-i l = Needing (lent l.terms l.cells l.chars l.reasons l.keys) l.c (same_heads (read_in l.terms l.chars l.c) (way l.tail l.lhs) (way l.tail l.rhs)) l.i
