use Rattle.capi.proofs.Words.{audit_unstated, audit_stated}
use mathlib.Core.Path.{◌∙◌}
use native.Mathlib.Omega.{arith}
use Rattle.capi.proofs.labels_audit.Goals as goal

pub returns-then-state-lt-STATE_ROOM : goal.returns-then-state-lt-STATE_ROOM
returns-then-state-lt-STATE_ROOM c =
    c.from.ensures ∙ audit_unstated _ _ c.if-state-lt-STATE_ROOM.true

pub returns-in-Ok : goal.returns-in-Ok
returns-in-Ok c =
    audit_stated _ _ _ _ (omega arith) c.state_of.ensures c.in-Ok.ensures

pub returns-in-Err : goal.returns-in-Err
returns-in-Err c =
    c.from-in-Err.ensures ∙ audit_stated _ _ _ _ (omega arith) c.state_of.ensures c.in-Err.ensures
