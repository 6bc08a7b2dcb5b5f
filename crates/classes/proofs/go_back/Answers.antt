use mathlib.Core.Path.{sym}
use Rattle.records.proofs.Public.{handed}
use Rattle.classes.specs.Calls.{go_back}
use Rattle.classes.proofs.ReadyMarks.{marks-ready}
use Rattle.classes.proofs.Refines.PublicCalls.{call-audit, back-absent, call-given}
use Rattle.classes.proofs.go_back.Goals as goal

pub returns-in_err-audit : goal.returns-in_err-audit
returns-in_err-audit c =
    rw (handed _ c.from_residual.ensures.1) (call-audit (go_back _) _ _ _ _ _ c.in_err-audit.ensures)

pub returns-then-not-is_within : goal.returns-then-not-is_within
returns-then-not-is_within c =
    back-absent _ _ _ _ (sym c.in_ok-audit.ensures) _ _
    c.is_within.ensures c.if-not-is_within.true

pub go_back_unchecked-e-requires-clause-ready_marks : goal.go_back_unchecked-e-requires-clause-ready_marks
go_back_unchecked-e-requires-clause-ready_marks c = marks-ready (sym c.in_ok-audit.ensures)

pub returns : goal.returns
returns c =
    call-given (go_back _) (sym c.in_ok-audit.ensures) c.go_back_unchecked-e.ensures
