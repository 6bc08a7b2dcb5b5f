use Rattle.records.specs.View.{read_in}
use Rattle.sides.proofs.Refines.Stripping.{Counted}
use Rattle.sides.proofs.stripping.count_same.Given as goal

abbrev pub invariant-loop-i : goal.invariant-loop-i
invariant-loop-i l = Counted (read_in l.terms l.chars l.c) l.lhs l.rhs l.tail l.i
