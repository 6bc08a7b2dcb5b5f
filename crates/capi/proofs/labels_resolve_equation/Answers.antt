use Rattle.capi.proofs.Words.{told-by, told-refuses}
use Rattle.capi.proofs.AnswerExports.{resolve_telling, resolve_untold, resolve_tellable, resolve_exported}
use mathlib.Core.Path.{sym, ap, ◌∙◌}
use native.Mathlib.Omega.{arith}
use Rattle.capi.proofs.labels_resolve_equation.Goals as goal

pub returns-then-not-is_roomy : goal.returns-then-not-is_roomy
returns-then-not-is_roomy c =
    resolve_untold _ _ _ _ _ _ _ (sym c.is_roomy.ensures ∙ c.if-not-is_roomy.true) c.from.ensures

pub tell_answer-requires : goal.tell_answer-requires
tell_answer-requires c = (
  sym c.is_roomy.ensures ∙ c.if-not-is_roomy.false,
  resolve_tellable _ c.ranges.guard c.resolve_equation-made.ensures (let k = c.resolve_equation-made.auto.list in omega arith) _ c.in-Ok.is,
)

pub returns-in-Ok : goal.returns-in-Ok
returns-in-Ok c =
    resolve_exported _ c.ranges.guard c.resolve_equation-made.ensures (let k = c.resolve_equation-made.auto.list in omega arith) (sym c.is_roomy.ensures ∙ c.if-not-is_roomy.false) c.state_of-c.ensures
    (told-by (ap resolve_telling c.in-Ok.is) c.tell_answer.ensures.is)

pub returns-in-Err : goal.returns-in-Err
returns-in-Err c =
    resolve_exported _ c.ranges.guard c.resolve_equation-made.ensures (let k = c.resolve_equation-made.auto.list in omega arith) (sym c.is_roomy.ensures ∙ c.if-not-is_roomy.false) c.state_of-c.ensures
    (told-refuses (ap resolve_telling c.in-Err.is) c.from-in-Err.ensures)
