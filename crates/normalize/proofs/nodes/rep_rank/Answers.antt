use borrow.Author.Rules.{rules}
use Rattle.normalize.specs.Working.Nodes.{rank}
use Rattle.normalize.proofs.nodes.rep_rank.Goals as goal

pub returns : goal.returns
unfolding rank
returns c = search rules
