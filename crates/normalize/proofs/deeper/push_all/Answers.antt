use Rattle.records.proofs.Public.{handed}
use Rattle.normalize.proofs.Refines.Heaping.{heaping_none}
use Rattle.normalize.proofs.Refines.Rounding.{all-turn, all-stopped, all_done}
use Rattle.normalize.proofs.deeper.push_all.Goals as goal

pub loop-a-init : goal.loop-a-init
loop-a-init c =
    heaping_none _ _ c.requires.ready

pub returns-in_err-count : goal.returns-in_err-count
returns-in_err-count c =
    rw (handed _ c.from_residual.ensures.1)
    (all-stopped c.args.next.now c.loop-a.invariant c.requires.strings c.loop-a-test.true c.in_err-count.ensures)

pub loop-a-preserved : goal.loop-a-preserved
loop-a-preserved c =
    all-turn c.args.next.now c.loop-a.invariant c.requires.strings c.loop-a-test.true c.push.new.list _ _
    c.in_ok-count.ensures

pub returns : goal.returns
returns c =
    all_done c.args.next.now c.loop-a.invariant c.loop-a-test.false
