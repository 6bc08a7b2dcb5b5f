use Rattle.wordeq.proofs.Refines.Heads.{opposite_fits, opposite_is}
use Rattle.wordeq.proofs.heads.negated.Goals as goal

pub overflow_sub-result : goal.overflow_sub-result
overflow_sub-result c =
    opposite_fits c.args.guard c.requires c.ranges.guard

pub returns : goal.returns
returns c =
    opposite_is c.args.guard c.requires c.ranges.guard
