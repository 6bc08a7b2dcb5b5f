use Rattle.classes.proofs.Refines.Merge.{put_under}
use Rattle.classes.proofs.put_under_unchecked.Goals as goal

pub returns : goal.returns
returns c =
    put_under c.args.terms.now _ _ c.args.child c.args.parent c.args.n c.args.stamp
    c.put_class_parent_unchecked.ensures (rw c.into.ensures at c.put_edge_unchecked.ensures)
