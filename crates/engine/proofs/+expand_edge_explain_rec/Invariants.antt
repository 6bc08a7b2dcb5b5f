use Rattle.engine.proofs.Refines.Turns.{Pairing}
use Rattle.engine.proofs.Refines.Rises.{Rising, far}
use lib.ListN.{length}
use Prim.Native.Nat.{◌+◌, ◌*◌}
use Rattle.records.specs.View.{terms_view, cells_view}
use Rattle.records.specs.Store.{term_in, path_in, chain_in}
use Rattle.engine.specs.Explain.{highest}
use Rattle.engine.proofs.+expand_edge_explain_rec.Given as goal

abbrev pub decreases-expand_edge : goal.decreases-expand_edge
decreases-expand_edge l = 2 * (term_in (terms_view l.terms.now l.n) l.node).stamp + 1

abbrev pub decreases-explain_rec : goal.decreases-explain_rec
decreases-explain_rec l = 2 * highest (terms_view l.terms.now l.n) (path_in (terms_view l.terms.now l.n) l.a l.b)

abbrev pub invariant-expand_edge-loop-at : goal.invariant-expand_edge-loop-at
invariant-expand_edge-loop-at l = Pairing l.terms l.cells l.initial.table l.table l.initial.reasons l.reasons l.n l.k l.node l.initial.at l.at l.initial.given l.given

abbrev pub decreases-expand_edge-loop-at : goal.decreases-expand_edge-loop-at
decreases-expand_edge-loop-at l = length (chain_in (cells_view l.cells l.k) l.at)

abbrev pub invariant-explain_rec-loop-x : goal.invariant-explain_rec-loop-x
invariant-explain_rec-loop-x l = Rising l.terms l.cells l.initial.table l.table l.initial.reasons l.reasons l.n l.k l.a l.b l.top l.x l.last l.initial.given l.given

abbrev pub decreases-explain_rec-loop-x : goal.decreases-explain_rec-loop-x
decreases-explain_rec-loop-x l = far (terms_view l.terms l.n) l.top l.b l.last l.x
