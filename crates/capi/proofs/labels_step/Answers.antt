use Rattle.std.specs.Prelude.{Ok}
use Rattle.capi.proofs.Words.{told-by, told-refuses}
use Rattle.capi.proofs.StepExports.{outcome_telling, step_untold, answered_tellable, unexpanded_tellable, step_exported}
use mathlib.Core.Path.{sym, ap, ◌∙◌}
use native.Mathlib.Omega.{arith}
use Rattle.capi.proofs.labels_step.Goals as goal

pub returns-then-not-is_roomy : goal.returns-then-not-is_roomy
returns-then-not-is_roomy c =
    step_untold _ _ _ _ _ _ _ (sym c.is_roomy.ensures ∙ c.if-not-is_roomy.true) c.from.ensures

pub tell_answer-requires : goal.tell_answer-requires
tell_answer-requires c =
    (sym c.is_roomy.ensures ∙ c.if-not-is_roomy.false, answered_tellable c.step-made.result c.ranges.guard c.step-made.ensures (let k = c.step-made.auto.list in omega arith) _ (c.in-Ok-Answered.is ∙ ap Ok (rw c.in-Ok-Answered.is at c.in-Ok-Answered.field-0-is)))

pub returns-in-Ok-Answered : goal.returns-in-Ok-Answered
returns-in-Ok-Answered c =
    step_exported c.step-made.result c.ranges.guard c.step-made.ensures (let k = c.step-made.auto.list in omega arith) (sym c.is_roomy.ensures ∙ c.if-not-is_roomy.false) c.state_of-c.ensures
    (told-by (ap outcome_telling (c.in-Ok-Answered.is ∙ ap Ok (rw c.in-Ok-Answered.is at c.in-Ok-Answered.field-0-is))) c.tell_answer.ensures.is)

pub tell_words-requires : goal.tell_words-requires
tell_words-requires c =
    (sym c.is_roomy.ensures ∙ c.if-not-is_roomy.false, unexpanded_tellable c.step-made.result c.ranges.guard c.step-made.ensures (let k = c.step-made.auto.list in omega arith) _ (c.in-Ok-Unexpanded.is ∙ ap Ok (rw c.in-Ok-Unexpanded.is at c.in-Ok-Unexpanded.field-0-is)), omega arith)

pub returns-in-Ok-Unexpanded : goal.returns-in-Ok-Unexpanded
returns-in-Ok-Unexpanded c =
    step_exported c.step-made.result c.ranges.guard c.step-made.ensures (let k = c.step-made.auto.list in omega arith) (sym c.is_roomy.ensures ∙ c.if-not-is_roomy.false) c.state_of-c.ensures
    (told-by (ap outcome_telling (c.in-Ok-Unexpanded.is ∙ ap Ok (rw c.in-Ok-Unexpanded.is at c.in-Ok-Unexpanded.field-0-is))) c.tell_words.ensures.is)

pub returns-in-Err : goal.returns-in-Err
returns-in-Err c =
    step_exported c.step-made.result c.ranges.guard c.step-made.ensures (let k = c.step-made.auto.list in omega arith) (sym c.is_roomy.ensures ∙ c.if-not-is_roomy.false) c.state_of-c.ensures
    (told-refuses (ap outcome_telling c.in-Err.is) c.from-in-Err.ensures)
