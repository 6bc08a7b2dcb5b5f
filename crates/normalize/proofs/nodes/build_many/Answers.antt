use mathlib.Core.Path.{refl}
use Rattle.records.proofs.ClimbEnds.{ends-none}
use Rattle.records.proofs.Lists.{every_at}
use Rattle.normalize.proofs.Represents.{nodes-turn, nodes-done}
use Rattle.normalize.proofs.nodes.build_many.Goals as goal

pub loop-t-init : goal.loop-t-init
loop-t-init c =
    (refl, ends-none _ _ c.requires.n_le_term_limit)

pub keep_node-requires-clause-t_counted : goal.keep_node-requires-clause-t_counted
keep_node-requires-clause-t_counted c =
    every_at _ _ 0 c.requires.every c.loop-t-test.true

pub loop-t-preserved : goal.loop-t-preserved
loop-t-preserved c =
    (nodes-turn _ _ _ _ _ _ _ c.loop-t-test.true refl c.keep_node.ensures.adds c.loop-t.invariant.0, c.keep_node.ensures.kept)

pub returns : goal.returns
returns c =
    nodes-done _ _ _ _ _ c.loop-t-test.false c.loop-t.invariant.0
