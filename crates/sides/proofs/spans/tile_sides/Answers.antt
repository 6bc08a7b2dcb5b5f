use Rattle.records.proofs.Public.{handed}
use Rattle.sides.proofs.Refines.TileCalls.{tile-none, tile-fits, tile-pairs, tile-classes, tile-conflict, tile-refused}
use Rattle.sides.proofs.spans.tile_sides.Goals as goal
use Rattle.sides.proofs.spans.tile_sides.Goals.{then-side-i-via-then-side-i, then-side-i-via-else-side-i+then-not-is_unfit}

pub returns-then-side-i : goal.returns-then-side-i
returns-then-side-i c =
    elim c.then-side-i.branch [ then-side-i-via-then-side-i w ↦ tile-none c.args.terms.now c.args.cells.now c.args.chars.now c.args.reasons.now c.args.keys.now c.args.c c.args.word.now c.args.side.now _ c.first_variable_unchecked-i.ensures c.requires.ready w.if-side-i.true | then-side-i-via-else-side-i+then-not-is_unfit w ↦ tile-fits c.args.terms.now c.args.cells.now c.args.chars.now c.args.reasons.now c.args.keys.now c.args.c c.args.word.now c.args.side.now _ c.first_variable_unchecked-i.ensures w.if-side-i.false _ w.is_unfit.ensures c.requires.ready w.if-not-is_unfit.true-raw ]

pub explain_all_unchecked-requires-clause-pairs : goal.explain_all_unchecked-requires-clause-pairs
explain_all_unchecked-requires-clause-pairs c =
    tile-pairs c.args.terms.now c.args.cells.now c.args.chars.now c.args.reasons.now c.args.keys.now
    c.args.c c.args.word.now c.args.side.now _ c.first_variable_unchecked-i.ensures c.if-side-i.false _
    c.is_unfit.ensures c.if-not-is_unfit.false-raw c.requires.both_lists.right

pub explain_all_unchecked-requires-clause-one_class : goal.explain_all_unchecked-requires-clause-one_class
explain_all_unchecked-requires-clause-one_class c =
    tile-classes c.args.terms.now c.args.cells.now c.args.chars.now c.args.reasons.now c.args.keys.now
    c.args.c c.args.word.now c.args.side.now _ c.first_variable_unchecked-i.ensures c.if-side-i.false _
    c.is_unfit.ensures c.if-not-is_unfit.false-raw

pub returns-in_err-d : goal.returns-in_err-d
returns-in_err-d c =
    rw (handed _ c.from_residual.ensures.1)
    (tile-refused c.args.terms.now c.args.cells.now c.args.chars.now c.args.reasons.now c.args.keys.now
    c.args.c c.args.word.now c.args.side.now _ c.first_variable_unchecked-i.ensures c.if-side-i.false _
    c.is_unfit.ensures c.if-not-is_unfit.false-raw _ _ c.in_err-d.ensures)

pub returns : goal.returns
returns c =
    tile-conflict c.args.terms.now c.args.cells.now c.args.chars.now c.args.reasons.now c.args.keys.now
    c.args.c c.args.word.now c.args.side.now _ c.first_variable_unchecked-i.ensures c.if-side-i.false _
    c.is_unfit.ensures c.if-not-is_unfit.false-raw _ _ c.in_ok-d.ensures
