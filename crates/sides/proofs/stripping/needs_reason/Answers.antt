use mathlib.Core.Path.{sym, ◌∙◌}
use borrow.Author.Rules.{rules}
use borrow.Author.Tests.{eq-eqb, not-true}
use Rattle.sides.specs.Wordeq.{needs_reason}
use Rattle.records.proofs.Lists.{clash}
use Rattle.sides.proofs.Refines.Stripping.{need_arguments}
use Rattle.sides.proofs.stripping.needs_reason.Goals as goal
use Rattle.sides.proofs.stripping.needs_reason.Goals.{then-a-b, else-a-b}

pub is_reasoned_unchecked-requires : goal.is_reasoned_unchecked-requires
is_reasoned_unchecked-requires c = (
  c.requires.ready,
  elim c.if-a-b.branch [
    | then-a-b w ↦ need_arguments c.args.terms.now c.args.cells.now c.args.chars.now c.args.reasons.now c.args.keys.now
        c.args.c _ _ w.if-a-b.true _ w.both_constant.ensures (not-true _ (sym w.value-is ∙ c.if-not-both_constant.true)) c.requires.pair c.requires.alike
    | else-a-b w ↦ clash (eq-eqb _ _ w.if-a-b.false) (not-true _ (sym w.value-is ∙ c.if-not-both_constant.true))
  ],
)

pub returns-then-not-both_constant : goal.returns-then-not-both_constant
unfolding needs_reason
returns-then-not-both_constant c = search rules

pub returns-else-not-both_constant : goal.returns-else-not-both_constant
unfolding needs_reason
returns-else-not-both_constant c = search rules
