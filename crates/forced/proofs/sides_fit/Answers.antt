use Rattle.forced.proofs.Refines.ForcedLengthCalls.{sides-left, sides-right, sides-none}
use Rattle.records.specs.View.{lent}
use mathlib.Core.Path.{sym, ◌∙◌}
use Rattle.forced.proofs.sides_fit.Goals as goal

pub is_forced-requires : goal.is_forced-requires
is_forced-requires c =
    record {
      readable = record { cells = c.args.cells.now; reasons = c.args.reasons.now; keys = c.args.keys.now; ready = c.requires.ready };
      side_is_list = c.requires.both_lists.right;
    }

pub side_fit-requires : goal.side_fit-requires
side_fit-requires c =
    record {
      readable = record { cells = c.args.cells.now; reasons = c.args.reasons.now; keys = c.args.keys.now; ready = c.requires.ready };
      both_lists = record { left = c.requires.both_lists.left; right = c.requires.both_lists.right };
      is_forced = sym c.is_forced.ensures ∙ c.if-is_forced.true;
    }

pub returns-then-is_forced : goal.returns-then-is_forced
returns-then-is_forced c =
    sides-left (lent c.args.terms.now c.args.cells.now c.args.chars.now c.args.reasons.now c.args.keys.now)
    c.args.c c.args.lhs.now c.args.rhs.now _ c.is_forced.ensures c.requires.ready c.if-is_forced.true c.side_fit.result
    c.side_fit.ensures

pub is_forced-requires-else-is_forced : goal.is_forced-requires-else-is_forced
is_forced-requires-else-is_forced c =
    record {
      readable = record { cells = c.args.cells.now; reasons = c.args.reasons.now; keys = c.args.keys.now; ready = c.requires.ready };
      side_is_list = c.requires.both_lists.left;
    }

pub side_fit-requires-then-is_forced-2 : goal.side_fit-requires-then-is_forced-2
side_fit-requires-then-is_forced-2 c =
    record {
      readable = record { cells = c.args.cells.now; reasons = c.args.reasons.now; keys = c.args.keys.now; ready = c.requires.ready };
      both_lists = record { left = c.requires.both_lists.right; right = c.requires.both_lists.left };
      is_forced = sym c.is_forced-else-is_forced.ensures ∙ c.if-is_forced-2.true;
    }

pub returns-then-is_forced-2 : goal.returns-then-is_forced-2
returns-then-is_forced-2 c =
    sides-right (lent c.args.terms.now c.args.cells.now c.args.chars.now c.args.reasons.now c.args.keys.now)
    c.args.c c.args.lhs.now c.args.rhs.now _ c.is_forced.ensures c.if-is_forced.false _
    c.is_forced-else-is_forced.ensures c.requires.ready c.if-is_forced-2.true c.side_fit-then-is_forced-2.result c.side_fit-then-is_forced-2.ensures

pub returns-else-is_forced-2 : goal.returns-else-is_forced-2
returns-else-is_forced-2 c =
    sides-none (lent c.args.terms.now c.args.cells.now c.args.chars.now c.args.reasons.now c.args.keys.now)
    c.args.c c.args.lhs.now c.args.rhs.now _ c.is_forced.ensures c.if-is_forced.false _
    c.is_forced-else-is_forced.ensures c.if-is_forced-2.false
