use native.Mathlib.Omega.{arith}
use mathlib.Core.Path.{refl, ◌∙◌}
use Rattle.classes.proofs.Refines.MarkTables.{auditing_begin, first_low, auditing_none, auditing_asks, auditing_bad, auditing_turn, auditing_done}
use borrow.Author.Rules.{rules}
use Rattle.classes.proofs.trail.tables_ok_unchecked.Goals as goal

pub loop-i-init : goal.loop-i-init
loop-i-init c =
    search (rules, auditing_begin)

pub undo_to_unchecked-requires-clause-order : goal.undo_to_unchecked-requires-clause-order
undo_to_unchecked-requires-clause-order c =
    first_low _ _ _ _ _ _ c.loop-i.invariant _ (omega (arith, c.loop-i-test.true)) refl _ (c.wide-first.ensures ∙ c.word.ensures)

pub returns-then-not-undo_to_unchecked : goal.returns-then-not-undo_to_unchecked
returns-then-not-undo_to_unchecked c =
    auditing_none _ _ _ _ _ _ c.loop-i.invariant _ (omega (arith, c.loop-i-test.true)) refl _ (c.wide-first.ensures ∙ c.word.ensures) _
    c.undo_to_unchecked.ensures c.if-not-undo_to_unchecked.true

pub table_ok_unchecked-requires : goal.table_ok_unchecked-requires
table_ok_unchecked-requires c =
    auditing_asks _ _ _ _ _ _ c.loop-i.invariant _ (omega (arith, c.loop-i-test.true)) refl _ (c.wide-first.ensures ∙ c.word.ensures) _
    c.undo_to_unchecked.ensures c.if-not-undo_to_unchecked.false

pub returns-then-not-table_ok_unchecked : goal.returns-then-not-table_ok_unchecked
returns-then-not-table_ok_unchecked c =
    auditing_bad _ _ _ _ _ _ c.loop-i.invariant _ (omega (arith, c.loop-i-test.true)) refl _ (c.wide-first.ensures ∙ c.word.ensures) _
    c.undo_to_unchecked.ensures c.if-not-undo_to_unchecked.false _ c.table_ok_unchecked.ensures c.if-not-table_ok_unchecked.true

pub loop-i-preserved : goal.loop-i-preserved
loop-i-preserved c =
    auditing_turn _ _ _ _ _ _ c.loop-i.invariant _ (omega (arith, c.loop-i-test.true)) refl _ (c.wide-first.ensures ∙ c.word.ensures) _
    c.undo_to_unchecked.ensures c.if-not-undo_to_unchecked.false _ c.table_ok_unchecked.ensures c.if-not-table_ok_unchecked.false

pub returns : goal.returns
returns c =
    auditing_done _ _ _ _ _ _ c.loop-i.invariant c.loop-i-test.false
