use Rattle.sides.proofs.Refines.LackingSides.{found-stop, found-one, found-done}
use Rattle.sides.proofs.lacking.lacks_side.Goals as goal

pub returns-then-lacks_atom : goal.returns-then-lacks_atom
returns-then-lacks_atom c =
    found-stop _ _ _ _ _ _ _ c.loop-a.invariant _ _ c.loop-a-test.true c.lacks_atom.ensures c.if-lacks_atom.true

pub loop-a-preserved : goal.loop-a-preserved
loop-a-preserved c =
    found-one _ _ _ _ _ _ _ c.loop-a.invariant _ _ c.loop-a-test.true c.lacks_atom.ensures c.if-lacks_atom.false

pub returns : goal.returns
returns c =
    found-done _ _ _ _ _ _ _ c.loop-a.invariant c.loop-a-test.false
