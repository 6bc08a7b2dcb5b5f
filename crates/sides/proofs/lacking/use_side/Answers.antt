use Rattle.sides.proofs.Refines.LackingSides.{using_side_one, using_side_done}
use Rattle.sides.proofs.lacking.use_side.Goals as goal

pub loop-a-preserved : goal.loop-a-preserved
loop-a-preserved c =
    using_side_one _ _ _ _ _ _ c.loop-a.invariant _ c.loop-a-test.true c.use_atom.ensures

pub returns : goal.returns
returns c =
    using_side_done _ _ _ _ _ _ c.loop-a.invariant c.loop-a-test.false
