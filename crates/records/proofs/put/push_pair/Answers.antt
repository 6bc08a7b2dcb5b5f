use Rattle.records.proofs.Refines.Puts.{pair_put}
use Rattle.records.proofs.put.push_pair.Goals as goal

pub returns : goal.returns
returns c =
    search pair_put
