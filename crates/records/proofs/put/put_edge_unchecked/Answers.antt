use Rattle.records.proofs.Refines.Puts.{edge-set}
use Rattle.records.proofs.put.put_edge_unchecked.Goals as goal

pub returns : goal.returns
returns c =
    edge-set c.args.terms.now c.args.t c.args.parent c.args.kind c.args.value c.args.stamp c.requires
