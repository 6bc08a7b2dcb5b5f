use lib.ListN.{drop}
use mathlib.Core.Path.{◌≡◌}
use Rattle.normalize.specs.Working.Nodes.{with_nodes}
use Rattle.records.specs.View.{terms_view}
use Rattle.records.specs.Store.{class_up}
use Rattle.records.specs.Working.ClimbEnds.{Ends}
use Rattle.normalize.proofs.nodes.build_many.Given as goal

abbrev pub invariant-loop-t : goal.invariant-loop-t
invariant-loop-t l = (with_nodes (terms_view l.terms l.n) (drop l.t-index l.known) l.nodes ≡ with_nodes (terms_view l.terms l.n) l.known l.initial.nodes) × Ends (class_up (terms_view l.terms l.n)) l.n l.roots
