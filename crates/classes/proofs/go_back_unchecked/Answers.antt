use mathlib.Core.Path.{ap, ◌∙◌}
use Prim.Native.Nat.{ℕ, ◌-◌}
use native.Mathlib.Omega.{arith}
use Rattle.records.proofs.Lists.{within_low}
use Rattle.classes.proofs.Refines.Calling.{back-asked, back_done}
use Rattle.classes.proofs.go_back_unchecked.Goals as goal

pub overflow_sub-left : goal.overflow_sub-left
overflow_sub-left c =
    let e = c.wide-left.ensures in let h = within_low _ _ c.requires.mark_value in omega arith

pub undo_to_unchecked-requires-clause-tabled : goal.undo_to_unchecked-requires-clause-tabled
undo_to_unchecked-requires-clause-tabled c =
    (back-asked c.requires.ready_marks c.args.mark c.requires.mark_value (ap (λ (x : ℕ). x - 1) c.wide-left.ensures) (c.wide-joins.ensures ∙ c.word.ensures)).0

pub undo_to_unchecked-requires-clause-order : goal.undo_to_unchecked-requires-clause-order
undo_to_unchecked-requires-clause-order c =
    (back-asked c.requires.ready_marks c.args.mark c.requires.mark_value (ap (λ (x : ℕ). x - 1) c.wide-left.ensures) (c.wide-joins.ensures ∙ c.word.ensures)).1.0

pub returns : goal.returns
returns c =
    back_done c.requires.ready_marks c.args.mark c.requires.mark_value (ap (λ (x : ℕ). x - 1) c.wide-left.ensures) (c.wide-joins.ensures ∙ c.word.ensures)
    c.undo_to_unchecked.ensures
