use Rattle.normalize.proofs.Represents.{root-place, keeps-more}
use Rattle.records.proofs.ClimbEnds.{term_place_lem}
use Rattle.normalize.proofs.nodes.keep_node.Goals as goal

pub bounds-roots-t : goal.bounds-roots-t
bounds-roots-t c =
    term_place_lem _ _ c.requires.n_le_term_limit c.requires.t_counted

pub put_node-requires-clause-root_in_bounds : goal.put_node-requires-clause-root_in_bounds
put_node-requires-clause-root_in_bounds c =
    root-place c.args.terms.now _ _ _ c.requires.n_le_term_limit c.requires.t_counted c.requires.rooting.stays c.kept_root_unchecked-root.ensures

pub returns : goal.returns
returns c =
    keeps-more c.args.terms.now _ _ _ _ _ _ c.requires.n_le_term_limit c.requires.t_counted c.requires.rooting c.requires.ends c.kept_root_unchecked-root.ensures c.put_node.ensures
