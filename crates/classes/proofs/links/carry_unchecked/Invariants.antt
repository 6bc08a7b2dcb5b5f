use Rattle.classes.specs.Joins.{edge}
use Rattle.classes.proofs.Refines.CarryWords.{Carrying}
use Rattle.classes.proofs.links.carry_unchecked.Given as goal

abbrev pub invariant-loop : goal.invariant-loop
invariant-loop l = Carrying l.initial.terms l.terms l.n l.x (edge l.parent l.kind l.value l.stamp) l.at l.below l.k l.v l.m l.counter
