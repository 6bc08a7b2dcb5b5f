use Rattle.records.proofs.Refines.IndexWalks.{EndWalk, to_meet}
use Rattle.records.proofs.index.end_of.Given as goal

abbrev pub invariant-loop-t : goal.invariant-loop-t
invariant-loop-t l = EndWalk l.terms l.n l.b l.place l.t

abbrev pub decreases-loop-t : goal.decreases-loop-t
decreases-loop-t l = to_meet l.n l.t
