use Rattle.normalize.proofs.Represents.{node_free, node_better, node_stays}
use Rattle.normalize.proofs.nodes.put_node.Goals as goal
use Rattle.normalize.proofs.nodes.put_node.Goals.{then-prev-eq0-via-then-prev-eq0, then-prev-eq0-via-else-prev-eq0+then-rep_rank}

pub returns-then-prev-eq0 : goal.returns-then-prev-eq0
returns-then-prev-eq0 c =
    elim c.then-prev-eq0.branch [
      | then-prev-eq0-via-then-prev-eq0 w ↦ node_free _ _ _ _ c.requires.root_of_t w.if-prev-eq0.true
      | then-prev-eq0-via-else-prev-eq0+then-rep_rank w ↦ node_better _ _ _ _ c.requires.root_of_t _ _ w.if-prev-eq0.false w.rep_rank.ensures w.rep_rank-else-prev-eq0.ensures w.if-rep_rank.true
    ]

pub returns-else-rep_rank : goal.returns-else-rep_rank
returns-else-rep_rank c =
    node_stays _ _ _ _ c.requires.root_of_t _ _ c.if-prev-eq0.false c.rep_rank.ensures c.rep_rank-else-prev-eq0.ensures c.if-rep_rank.false
