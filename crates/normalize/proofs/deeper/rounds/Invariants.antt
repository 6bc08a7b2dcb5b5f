use Rattle.normalize.specs.Calls.{first_words}
use Rattle.records.specs.View.{lent}
use Rattle.normalize.proofs.Refines.Rounding.{Rounding}
use Rattle.normalize.proofs.deeper.rounds.Given as goal

abbrev pub invariant-loop : goal.invariant-loop
invariant-loop l = Rounding l.known l.t (first_words l.initial.list l.count) (lent l.initial.terms l.cells l.initial.chars l.initial.reasons l.keys) l.initial.d (lent l.terms l.cells l.chars l.reasons l.keys) l.d l.list l.n l.met l.counter
