use Rattle.records.proofs.Refines.Puts.{class-set}
use Rattle.records.proofs.put.put_class_parent_unchecked.Goals as goal

pub returns : goal.returns
returns c =
    class-set c.args.terms.now c.args.t c.args.parent c.requires
