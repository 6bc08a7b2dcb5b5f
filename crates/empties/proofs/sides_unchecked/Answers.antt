use Rattle.empties.proofs.Refines.EmptyPartsCalls.{sides-left, sides-right, sides-none}
use Rattle.records.specs.View.{lent}
use Rattle.empties.proofs.sides_unchecked.Goals as goal

pub empties_unchecked-requires : goal.empties_unchecked-requires
empties_unchecked-requires c =
    record {
      ready = c.requires.ready;
      side_is_list = c.requires.both_lists.right;
      list_limit_in_bounds = c.requires.list_limit_in_bounds;
    }

pub returns-then-is_emptied_unchecked : goal.returns-then-is_emptied_unchecked
returns-then-is_emptied_unchecked c =
    sides-left (lent c.args.terms.now c.args.cells.now c.args.chars.now c.args.reasons.now c.args.keys.now)
    c.args.c c.args.lhs.now c.args.rhs.now _ c.is_emptied_unchecked.ensures c.if-is_emptied_unchecked.true
    c.empties_unchecked.ensures

pub empties_unchecked-requires-then-is_emptied_unchecked-2 : goal.empties_unchecked-requires-then-is_emptied_unchecked-2
empties_unchecked-requires-then-is_emptied_unchecked-2 c =
    record {
      ready = c.requires.ready;
      side_is_list = c.requires.both_lists.left;
      list_limit_in_bounds = c.requires.list_limit_in_bounds;
    }

pub returns-then-is_emptied_unchecked-2 : goal.returns-then-is_emptied_unchecked-2
returns-then-is_emptied_unchecked-2 c =
    sides-right (lent c.args.terms.now c.args.cells.now c.args.chars.now c.args.reasons.now c.args.keys.now)
    c.args.c c.args.lhs.now c.args.rhs.now _ c.is_emptied_unchecked.ensures c.if-is_emptied_unchecked.false _
    c.is_emptied_unchecked-else-is_emptied_unchecked.ensures c.if-is_emptied_unchecked-2.true c.empties_unchecked-then-is_emptied_unchecked-2.ensures

pub returns-else-is_emptied_unchecked-2 : goal.returns-else-is_emptied_unchecked-2
returns-else-is_emptied_unchecked-2 c =
    sides-none (lent c.args.terms.now c.args.cells.now c.args.chars.now c.args.reasons.now c.args.keys.now)
    c.args.c c.args.lhs.now c.args.rhs.now _ c.is_emptied_unchecked.ensures c.if-is_emptied_unchecked.false _ c.is_emptied_unchecked-else-is_emptied_unchecked.ensures
    c.requires.ready c.if-is_emptied_unchecked-2.false c.args.list.now
