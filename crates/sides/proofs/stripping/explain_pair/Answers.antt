use Rattle.sides.proofs.Refines.Pairs.{pair-number, pair-alike, pair-apart, pair-explained}
use Rattle.sides.proofs.stripping.explain_pair.Goals as goal
use Rattle.sides.proofs.stripping.explain_pair.Goals.{then-a-b-via-then-a-b, then-a-b-via-else-a-b+then-is_alike, then-a-b-via-else-a-b+else-is_alike+then-not-same_class_unchecked}

pub returns-then-a-b : goal.returns-then-a-b
returns-then-a-b c =
    elim c.then-a-b.branch [ then-a-b-via-then-a-b w ↦ pair-number _ _ _ _ _ _ _ _ c.requires.ready w.if-a-b.true | then-a-b-via-else-a-b+then-is_alike w ↦ pair-alike _ _ _ _ _ _ _ _ w.if-a-b.false _ w.is_alike.ensures c.requires.ready w.if-is_alike.true | then-a-b-via-else-a-b+else-is_alike+then-not-same_class_unchecked w ↦ pair-apart _ _ _ _ _ _ _ _ w.if-a-b.false _ w.is_alike.ensures w.if-is_alike.false _ w.same_class_unchecked.ensures c.requires.ready w.if-not-same_class_unchecked.true-raw ]

pub returns : goal.returns
returns c =
    pair-explained _ _ _ _ _ _ _ _ c.if-a-b.false _ c.is_alike.ensures c.if-is_alike.false _ c.same_class_unchecked.ensures c.if-not-same_class_unchecked.false-raw
    c.explain_unchecked.ensures
