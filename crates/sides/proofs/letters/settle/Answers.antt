use Rattle.sides.proofs.Refines.SideWalk.{onward-atom, onward-end}
use Rattle.sides.proofs.letters.settle.Goals as goal

pub loop-i-preserved : goal.loop-i-preserved
loop-i-preserved c =
    onward-atom _ _ _ c.args.k _ _ c.loop-i.invariant _ c.letter_count-n.ensures c.requires c.loop-i-test.true c.if-j-n.false

pub returns : goal.returns
returns c =
    onward-end _ _ _ _ _ _ c.loop-i.invariant c.loop-i-test.false
