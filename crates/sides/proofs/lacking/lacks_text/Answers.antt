use Rattle.sides.proofs.Refines.LackingSides.{looked_none, looked_stop, looked_one}
use Rattle.sides.proofs.lacking.lacks_text.Goals as goal

pub loop-j-init : goal.loop-j-init
loop-j-init c =
    looked_none _ _ _ _ _

pub returns-then-not-is_known : goal.returns-then-not-is_known
returns-then-not-is_known c =
    looked_stop _ _ _ _ _ _ _ c.loop-j.invariant _ c.is_known.ensures c.loop-j-test.true c.if-not-is_known.true-raw

pub loop-j-preserved : goal.loop-j-preserved
loop-j-preserved c =
    looked_one _ _ _ _ _ _ _ c.loop-j.invariant _ c.is_known.ensures c.loop-j-test.true c.requires.2 c.requires.1 c.requires.3
    c.if-not-is_known.false-raw
