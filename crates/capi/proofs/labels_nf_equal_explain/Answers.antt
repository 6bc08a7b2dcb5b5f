use Rattle.capi.proofs.EqualExports.{pairs-short, pairs_tellable, pairs_exported}
use native.Mathlib.Omega.{arith}
use Rattle.capi.proofs.labels_nf_equal_explain.Goals as goal

pub returns-then-state-lt-STATE_ROOM : goal.returns-then-state-lt-STATE_ROOM
returns-then-state-lt-STATE_ROOM c =
    pairs-short _ _ _ _ c.if-state-lt-STATE_ROOM.true c.from.ensures

pub tell_counts-requires : goal.tell_counts-requires
tell_counts-requires c =
    (omega arith, pairs_tellable c.nf_equal_explain-added.ensures)

pub returns : goal.returns
returns c =
    pairs_exported c.nf_equal_explain-added.ensures (omega arith) c.state_of-c.ensures c.tell_counts.ensures
