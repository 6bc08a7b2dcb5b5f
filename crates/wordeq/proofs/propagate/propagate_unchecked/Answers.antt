use Rattle.wordeq.proofs.Refines.Choices.{choice_alias, choice_left, choice_right, choice_first, choice_last, choice_none}
use Rattle.sides.proofs.SideReady.{ready-read_in}
use Rattle.records.specs.View.{lent}
use Rattle.wordeq.proofs.propagate.propagate_unchecked.Goals as goal

pub is_alias-requires : goal.is_alias-requires
is_alias-requires c =
    ready-read_in (lent c.args.terms.now c.args.cells.now c.args.chars.now c.args.reasons.now c.args.keys.now)
    c.args.c c.requires.ready

pub returns-then-is_alias : goal.returns-then-is_alias
returns-then-is_alias c =
    choice_alias (lent c.args.terms.now c.args.cells.now c.args.chars.now c.args.reasons.now c.args.keys.now)
    c.args.c c.args.lhs.now c.args.rhs.now _ c.is_alias.ensures c.requires.ready
    c.if-is_alias.true

pub returns-then-is_emptied_unchecked : goal.returns-then-is_emptied_unchecked
returns-then-is_emptied_unchecked c =
    choice_left (lent c.args.terms.now c.args.cells.now c.args.chars.now c.args.reasons.now c.args.keys.now)
    c.args.c c.args.lhs.now c.args.rhs.now _ c.is_alias.ensures c.if-is_alias.false _ c.is_emptied_unchecked.ensures
    c.if-is_emptied_unchecked.true c.empties_unchecked.ensures

pub returns-then-is_emptied_unchecked-2 : goal.returns-then-is_emptied_unchecked-2
returns-then-is_emptied_unchecked-2 c =
    choice_right (lent c.args.terms.now c.args.cells.now c.args.chars.now c.args.reasons.now c.args.keys.now)
    c.args.c c.args.lhs.now c.args.rhs.now _ c.is_alias.ensures c.if-is_alias.false _ c.is_emptied_unchecked.ensures
    c.if-is_emptied_unchecked.false _ c.is_emptied_unchecked-else-is_emptied_unchecked.ensures c.if-is_emptied_unchecked-2.true c.empties_unchecked-then-is_emptied_unchecked-2.ensures

pub returns-then-is_assigned : goal.returns-then-is_assigned
returns-then-is_assigned c =
    choice_first (lent c.args.terms.now c.args.cells.now c.args.chars.now c.args.reasons.now c.args.keys.now)
    c.args.c c.args.lhs.now c.args.rhs.now _ c.is_alias.ensures c.if-is_alias.false _ c.is_emptied_unchecked.ensures
    c.if-is_emptied_unchecked.false _ c.is_emptied_unchecked-else-is_emptied_unchecked.ensures c.if-is_emptied_unchecked-2.false _ c.is_assigned.ensures c.if-is_assigned.true
    c.assigns_unchecked.ensures

pub returns-then-is_assigned-2 : goal.returns-then-is_assigned-2
returns-then-is_assigned-2 c =
    choice_last (lent c.args.terms.now c.args.cells.now c.args.chars.now c.args.reasons.now c.args.keys.now)
    c.args.c c.args.lhs.now c.args.rhs.now _ c.is_alias.ensures c.if-is_alias.false _ c.is_emptied_unchecked.ensures
    c.if-is_emptied_unchecked.false _ c.is_emptied_unchecked-else-is_emptied_unchecked.ensures c.if-is_emptied_unchecked-2.false _ c.is_assigned.ensures c.if-is_assigned.false _
    c.is_assigned-else-is_assigned.ensures c.if-is_assigned-2.true c.assigns_unchecked-then-is_assigned-2.ensures

pub returns-else-is_assigned-2 : goal.returns-else-is_assigned-2
returns-else-is_assigned-2 c =
    choice_none (lent c.args.terms.now c.args.cells.now c.args.chars.now c.args.reasons.now c.args.keys.now)
    c.args.c c.args.lhs.now c.args.rhs.now _ c.is_alias.ensures c.if-is_alias.false _ c.is_emptied_unchecked.ensures
    c.if-is_emptied_unchecked.false _ c.is_emptied_unchecked-else-is_emptied_unchecked.ensures c.if-is_emptied_unchecked-2.false _ c.is_assigned.ensures c.if-is_assigned.false _
    c.is_assigned-else-is_assigned.ensures c.requires.ready c.if-is_assigned-2.false
