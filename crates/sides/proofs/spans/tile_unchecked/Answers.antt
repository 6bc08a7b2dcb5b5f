use Rattle.sides.proofs.Refines.TileCalls.{sides-lists, sides-tried}
use Rattle.records.specs.View.{lent}
use Rattle.sides.proofs.spans.tile_unchecked.Goals as goal

pub tile_sides-requires-clause-both_lists : goal.tile_sides-requires-clause-both_lists
tile_sides-requires-clause-both_lists c =
    sides-lists (lent c.args.terms.now c.args.cells.now c.args.chars.now c.args.reasons.now c.args.keys.now)
    c.args.c c.args.lhs.now c.args.rhs.now _ _ _ c.which_fixed-which.ensures c.pick-word.ensures
    c.pick-side.ensures c.requires.both_lists

pub returns : goal.returns
returns c =
    sides-tried (lent c.args.terms.now c.args.cells.now c.args.chars.now c.args.reasons.now c.args.keys.now)
    c.args.c c.args.lhs.now c.args.rhs.now _ _ _ c.which_fixed-which.ensures c.pick-word.ensures c.pick-side.ensures _ _
    c.tile_sides.ensures
