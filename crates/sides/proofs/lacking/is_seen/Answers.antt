use Rattle.sides.proofs.Refines.LackingPlaces.{unseen_none, unseen_stop, unseen_one}
use Rattle.sides.proofs.lacking.is_seen.Goals as goal

pub loop-i-init : goal.loop-i-init
loop-i-init c =
    unseen_none _ _ _ _

pub returns-then-used_at : goal.returns-then-used_at
returns-then-used_at c =
    unseen_stop _ _ _ _ _ c.loop-i.invariant _ c.used_at.ensures c.loop-i-test.true c.if-used_at.true

pub loop-i-preserved : goal.loop-i-preserved
loop-i-preserved c =
    unseen_one _ _ _ _ _ c.loop-i.invariant _ c.used_at.ensures c.loop-i-test.true c.if-used_at.false
