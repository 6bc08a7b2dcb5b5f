use mathlib.Core.Path.{refl}
use Rattle.records.proofs.Public.{call_refused, handed}
use Rattle.engine.proofs.Refines.EngineCalls.{find-unfit, find-here, find-gives}
use Rattle.engine.proofs.find.Goals as goal

pub returns-in_err-audit : goal.returns-in_err-audit
returns-in_err-audit c =
    rw (handed _ c.from_residual.ensures.1) (call_refused _ _ _ _ _ c.in_err-audit.ensures)

pub returns-then-not-is_string : goal.returns-then-not-is_string
returns-then-not-is_string c =
    find-unfit _ _ _ _ c.in_ok-audit.ensures refl _ c.is_string.ensures c.if-not-is_string.true-raw

pub root_unchecked-root-requires : goal.root_unchecked-root-requires
root_unchecked-root-requires c =
    find-here _ _ _ _ c.in_ok-audit.ensures refl _ c.is_string.ensures c.if-not-is_string.false-raw

pub returns : goal.returns
returns c =
    find-gives _ _ _ _ c.in_ok-audit.ensures refl _ c.is_string.ensures c.if-not-is_string.false-raw _ c.root_unchecked-root.ensures
