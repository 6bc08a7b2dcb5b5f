use mathlib.Core.Path.{sym}
use Rattle.records.proofs.Public.{handed}
use Rattle.classes.proofs.ReadyMarks.{marks-ready}
use Rattle.classes.proofs.Refines.PublicCalls.{join_unready, join-wrong, join-gives}
use Rattle.classes.proofs.join.Goals as goal

pub returns-in_err-audit : goal.returns-in_err-audit
returns-in_err-audit c =
    rw (handed _ c.from_residual.ensures.1) (join_unready _ _ _ _ _ _ _ _ _ c.in_err-audit.ensures)

pub returns-then-not-can_join : goal.returns-then-not-can_join
returns-then-not-can_join c =
    join-wrong _ _ _ _ _ _ _ _
    (sym c.in_ok-audit.ensures) _ c.can_join.ensures c.if-not-can_join.true

pub join_unchecked-r-requires-clause-ready_marks : goal.join_unchecked-r-requires-clause-ready_marks
join_unchecked-r-requires-clause-ready_marks c = marks-ready (sym c.in_ok-audit.ensures)

pub returns : goal.returns
returns c =
    join-gives _ _ _ _ _ _ _ _
    (sym c.in_ok-audit.ensures) c.join_unchecked-r.ensures
