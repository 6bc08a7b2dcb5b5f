use Rattle.capi.proofs.Engines.{explain-short, explain_tellable, explain_exported}
use native.Mathlib.Omega.{arith}
use Rattle.capi.proofs.labels_explain.Goals as goal

pub returns-then-state-lt-STATE_ROOM : goal.returns-then-state-lt-STATE_ROOM
returns-then-state-lt-STATE_ROOM c =
    explain-short _ _ _ _ c.if-state-lt-STATE_ROOM.true c.from.ensures

pub tell_counts-requires : goal.tell_counts-requires
tell_counts-requires c =
    (omega arith, explain_tellable c.explain-added.ensures)

pub returns : goal.returns
returns c =
    explain_exported c.explain-added.ensures (omega arith) c.state_of-c.ensures c.tell_counts.ensures
