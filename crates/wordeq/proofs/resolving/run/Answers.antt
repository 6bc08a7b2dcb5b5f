use Rattle.wordeq.proofs.Refines.Flattening.{ran-flat, ran-plain}
use Rattle.wordeq.proofs.resolving.run.Goals as goal

pub returns-then-either_concat : goal.returns-then-either_concat
returns-then-either_concat c =
    ran-flat _ _ c.args.lhs.now c.args.rhs.now c.args.guard _ c.either_concat.ensures c.if-either_concat.true
    c.ranges.guard c.flat_steps.ensures

pub returns-else-either_concat : goal.returns-else-either_concat
returns-else-either_concat c =
    ran-plain _ _ c.args.lhs.now c.args.rhs.now c.args.guard _ c.either_concat.ensures c.if-either_concat.false
    c.ranges.guard c.steps_unchecked.ensures
