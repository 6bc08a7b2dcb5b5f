use Rattle.records.proofs.Paths.{Lifting}
use Rattle.records.specs.View.{terms_view}
use Rattle.records.specs.Working.Leaves.{levels}
use Rattle.records.proofs.classes.lift.Given as goal

abbrev pub invariant-loop-w : goal.invariant-loop-w
invariant-loop-w l = Lifting l.terms l.n l.t l.y l.z l.w

abbrev pub decreases-loop-w : goal.decreases-loop-w
decreases-loop-w l = levels (terms_view l.terms l.n) l.w
