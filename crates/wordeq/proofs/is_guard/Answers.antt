use Rattle.wordeq.proofs.Refines.ResolveCalls.{guard-zero, guard-other}
use Rattle.wordeq.proofs.is_guard.Goals as goal

pub returns-then-g-ne0 : goal.returns-then-g-ne0
returns-then-g-ne0 c =
    guard-other c.args.g c.ranges.g c.if-g-ne0.true

pub returns-else-g-ne0 : goal.returns-else-g-ne0
returns-else-g-ne0 c =
    guard-zero c.args.g c.ranges.g c.if-g-ne0.false
