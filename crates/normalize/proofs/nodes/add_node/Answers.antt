use Rattle.normalize.proofs.Represents.{root-place}
use Rattle.normalize.proofs.nodes.add_node.Goals as goal

pub put_node-requires-clause-root_in_bounds : goal.put_node-requires-clause-root_in_bounds
put_node-requires-clause-root_in_bounds c =
    root-place c.args.terms.now _ _ _ c.requires.n_le_term_limit c.requires.t_counted c.requires.closed c.root_unchecked-root.ensures
