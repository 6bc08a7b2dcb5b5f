use Rattle.records.specs.View.{lent}
use Rattle.normalize.proofs.Refines.Heaping.{Heaping}
use Rattle.normalize.proofs.Refines.Rounding.{all_left}
use Rattle.normalize.proofs.deeper.push_all.Given as goal

abbrev pub invariant-loop-a : goal.invariant-loop-a
invariant-loop-a l = Heaping (all_left l.next) (lent l.initial.terms l.cells l.initial.chars l.reasons l.keys) l.initial.d (lent l.terms l.cells l.chars l.reasons l.keys) l.d l.out l.count l.a-index
