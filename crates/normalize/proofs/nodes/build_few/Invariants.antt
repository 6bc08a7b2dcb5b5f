use lib.ListN.{drop}
use mathlib.Core.Path.{◌≡◌}
use Rattle.normalize.specs.Working.Nodes.{with_nodes}
use Rattle.records.specs.View.{terms_view}
use Rattle.normalize.proofs.nodes.build_few.Given as goal

abbrev pub invariant-loop-t : goal.invariant-loop-t
invariant-loop-t l = (with_nodes (terms_view l.terms l.n) (drop l.t-index l.known) l.nodes ≡ with_nodes (terms_view l.terms l.n) l.known l.initial.nodes)
