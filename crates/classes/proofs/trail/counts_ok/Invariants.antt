use lib.ListN.{get_or}
use Rattle.classes.proofs.Refines.Counting.{Rising}
use Rattle.classes.proofs.trail.counts_ok.Given as goal

abbrev pub invariant-loop-n : goal.invariant-loop-n
invariant-loop-n l = Rising (λ j. get_or l.marks j 0) l.d.joins l.d.marks l.last l.n-index
