use Rattle.records.specs.View.{terms_view}
use Rattle.engine.proofs.Refines.Rises.{far}
use Rattle.engine.proofs.Refines.Plainly.{Walking}
use Rattle.engine.proofs.explain_plain.Given as goal

abbrev pub invariant-loop-node : goal.invariant-loop-node
invariant-loop-node l = Walking l.terms l.initial.reasons l.reasons l.c.terms l.a l.b l.top l.node l.last l.initial.given l.given

abbrev pub decreases-loop-node : goal.decreases-loop-node
decreases-loop-node l = far (terms_view l.terms l.c.terms) l.top l.b l.last l.node
