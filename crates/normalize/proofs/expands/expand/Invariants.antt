use Rattle.records.specs.View.{lent}
use Rattle.normalize.proofs.Refines.Expanding.{Walking}
use Rattle.normalize.proofs.expands.expand.Given as goal

abbrev pub invariant-loop-a : goal.invariant-loop-a
invariant-loop-a l = Walking l.known l.t l.list l.initial.next l.initial.met (lent l.initial.terms l.cells l.initial.chars l.initial.reasons l.keys) l.initial.d (lent l.terms l.cells l.chars l.reasons l.keys) l.d l.next l.k l.met l.a-index
