use Rattle.normalize.proofs.Represents.{root-place, at_none, at_some}
use Rattle.normalize.proofs.nodes.rep.Goals as goal

pub bounds-nodes-root : goal.bounds-nodes-root
bounds-nodes-root c =
    root-place c.args.terms.now _ _ _ c.requires.n_le_term_limit c.requires.t_counted c.requires.closed c.root_unchecked-root.ensures

pub returns-then-r-eq0 : goal.returns-then-r-eq0
returns-then-r-eq0 c =
    at_none _ _ _ _ c.root_unchecked-root.ensures c.if-r-eq0.true

pub returns-else-r-eq0 : goal.returns-else-r-eq0
returns-else-r-eq0 c =
    at_some _ _ _ _ c.root_unchecked-root.ensures c.if-r-eq0.false
