use mathlib.Core.Path.{refl}
use Rattle.classes.proofs.Refines.Merge.{merge_unready, merge-unfit, merge-room, merge-is}
use Rattle.records.proofs.Public.{handed, passed-ready}
use Rattle.classes.proofs.merge.Goals as goal

pub returns-in_err-audit : goal.returns-in_err-audit
returns-in_err-audit c =
    rw (handed _ c.from_residual.ensures.1) (merge_unready _ _ _ _ _ _ _ c.in_err-audit.ensures)

pub can_merge_unchecked-requires : goal.can_merge_unchecked-requires
can_merge_unchecked-requires c =
    passed-ready _ _ _ c.in_ok-audit.ensures refl

pub returns-then-not-can_merge_unchecked : goal.returns-then-not-can_merge_unchecked
returns-then-not-can_merge_unchecked c =
    merge-unfit _ _ _ _ _ _ _ c.in_ok-audit.ensures refl _
    c.can_merge_unchecked.ensures c.if-not-can_merge_unchecked.true

pub put_under_unchecked-requires : goal.put_under_unchecked-requires
put_under_unchecked-requires c =
    merge-room _ _ c.args.child c.args.parent c.args.n c.args.stamp _ c.in_ok-audit.ensures refl _
    c.can_merge_unchecked.ensures c.if-not-can_merge_unchecked.false

pub returns : goal.returns
returns c =
    merge-is _ _ _ _ _ _ _ _ _ _ _ _ c.in_ok-audit.ensures refl _
    c.can_merge_unchecked.ensures c.if-not-can_merge_unchecked.false c.put_under_unchecked.ensures
