use Rattle.records.proofs.Refines.Texts.{agreed_none, agreed_one, agreed_all, disagree}
use mathlib.Core.Path.{sym, ◌∙◌}
use Rattle.records.proofs.text.text_past.Goals as goal

pub loop-i-init : goal.loop-i-init
loop-i-init c =
    agreed_none _ _ _

pub returns-then-word-x : goal.returns-then-word-x
returns-then-word-x c =
    disagree _ _ _ _ c.loop-i.invariant c.loop-i-test.true (λ e. c.if-word-x.true (c.word.ensures ∙ e))

pub loop-i-preserved : goal.loop-i-preserved
loop-i-preserved c =
    agreed_one _ _ _ _ c.loop-i.invariant c.loop-i-test.true (sym c.word.ensures ∙ c.if-word-x.false)

pub returns : goal.returns
returns c =
    agreed_all _ _ _ _ c.loop-i.invariant c.loop-i-test.false
