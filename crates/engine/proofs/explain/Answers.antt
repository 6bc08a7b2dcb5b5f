use mathlib.Core.Path.{refl}
use Rattle.records.proofs.Public.{handed, passed-ready}
use Rattle.engine.proofs.Refines.EngineCalls.{explain_unready, explain-unfit, explain-fit, explain_called}
use Rattle.engine.proofs.explain.Goals as goal

pub returns-in_err-audit : goal.returns-in_err-audit
returns-in_err-audit c =
    rw (handed _ c.from_residual.ensures.1) (explain_unready _ _ _ _ _ c.in_err-audit.ensures)

pub can_explain-requires : goal.can_explain-requires
can_explain-requires c =
    passed-ready _ _ _ c.in_ok-audit.ensures refl

pub returns-then-not-can_explain : goal.returns-then-not-can_explain
returns-then-not-can_explain c =
    explain-unfit _ _ _ _ _ c.in_ok-audit.ensures refl _ c.can_explain.ensures c.if-not-can_explain.true-raw

pub explain_unchecked-requires : goal.explain_unchecked-requires
explain_unchecked-requires c =
    explain-fit _ _ _ _ _ c.in_ok-audit.ensures refl _ c.can_explain.ensures c.if-not-can_explain.false-raw

pub returns : goal.returns
returns c =
    explain_called _ _ _ _ _ c.in_ok-audit.ensures refl _ c.can_explain.ensures c.if-not-can_explain.false-raw _ _ refl
    c.explain_unchecked.ensures
