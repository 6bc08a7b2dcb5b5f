use mathlib.Core.Path.{sym}
use Rattle.records.proofs.Public.{handed}
use Rattle.classes.specs.Calls.{set_mark}
use Rattle.classes.proofs.ReadyMarks.{marks-ready}
use Rattle.classes.proofs.Refines.PublicCalls.{call-audit, mark_full, call-given}
use Rattle.classes.proofs.set_mark.Goals as goal

pub returns-in_err-audit : goal.returns-in_err-audit
returns-in_err-audit c =
    rw (handed _ c.from_residual.ensures.1) (call-audit set_mark _ _ _ _ _ c.in_err-audit.ensures)

pub returns-then-d-ge-MARK_LIMIT : goal.returns-then-d-ge-MARK_LIMIT
returns-then-d-ge-MARK_LIMIT c =
    mark_full _ _ _ _ (sym c.in_ok-audit.ensures) c.if-d-ge-MARK_LIMIT.true

pub set_mark_unchecked-e-requires-clause-ready_marks : goal.set_mark_unchecked-e-requires-clause-ready_marks
set_mark_unchecked-e-requires-clause-ready_marks c = marks-ready (sym c.in_ok-audit.ensures)

pub returns : goal.returns
returns c =
    call-given set_mark (sym c.in_ok-audit.ensures) c.set_mark_unchecked-e.ensures
