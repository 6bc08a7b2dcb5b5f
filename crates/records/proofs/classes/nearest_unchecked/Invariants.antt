use Rattle.records.proofs.Paths.{Abreast}
use Rattle.records.specs.View.{terms_view}
use Rattle.records.specs.Working.Leaves.{levels}
use Rattle.records.proofs.classes.nearest_unchecked.Given as goal

abbrev pub invariant-loop-x : goal.invariant-loop-x
invariant-loop-x l = Abreast l.terms l.n l.a l.b l.x l.y

abbrev pub decreases-loop-x : goal.decreases-loop-x
decreases-loop-x l = levels (terms_view l.terms l.n) l.x
