use mathlib.Core.Path.{refl}
use Rattle.records.proofs.Lists.{every_at}
use Rattle.normalize.proofs.Represents.{nodes-turn, nodes-done}
use Rattle.normalize.proofs.nodes.build_few.Goals as goal

pub add_node-requires-clause-t_counted : goal.add_node-requires-clause-t_counted
add_node-requires-clause-t_counted c =
    every_at _ _ 0 c.requires.every c.loop-t-test.true

pub loop-t-preserved : goal.loop-t-preserved
loop-t-preserved c =
    (nodes-turn _ _ _ _ _ _ _ c.loop-t-test.true refl c.add_node.ensures c.loop-t.invariant)

pub returns : goal.returns
returns c =
    nodes-done _ _ _ _ _ c.loop-t-test.false c.loop-t.invariant
