use mathlib.Core.List.{◌++◌}
use Rattle.records.specs.View.{lent}
use Rattle.normalize.proofs.Refines.Heaping.{Heaping}
use Rattle.normalize.proofs.Refines.Replacing.{forms_left}
use Rattle.normalize.proofs.normal.push_forms.Given as goal

abbrev pub invariant-loop-a : goal.invariant-loop-a
invariant-loop-a l = Heaping (forms_left (l.known ++ l.flat) l.flat) (lent l.initial.terms l.cells l.initial.chars l.initial.reasons l.keys) l.initial.d (lent l.terms l.cells l.chars l.reasons l.keys) l.d l.list l.count l.a-index
