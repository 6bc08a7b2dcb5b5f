use native.Mathlib.Omega.{arith}
use mathlib.Core.Path.{refl, ap}
use Rattle.capi.proofs.Words.{told-by, told-refuses}
use Rattle.capi.proofs.Standings.{back-short, tracks_narrow, standing_telling, back_exported}
use Rattle.capi.proofs.marks.labels_go_back.Goals as goal

pub returns-then-state-lt-MARKED_ROOM : goal.returns-then-state-lt-MARKED_ROOM
returns-then-state-lt-MARKED_ROOM c =
    back-short _ _ _ _ c.if-state-lt-MARKED_ROOM.true c.from.ensures

pub write_standing-requires : goal.write_standing-requires
write_standing-requires c =
    (omega (arith, c.if-state-lt-MARKED_ROOM.false), (tracks_narrow c.go_back.ensures).counts _ _ c.in-Ok.is)

pub returns-in-Ok : goal.returns-in-Ok
returns-in-Ok c =
    back_exported c.state_of-c.ensures c.standing_of-d.ensures c.go_back.ensures (omega (arith, c.if-state-lt-MARKED_ROOM.false))
    (told-by (ap standing_telling c.in-Ok.is) (record { code = refl; state = c.write_standing.ensures; answer = refl }))

pub returns-in-Err : goal.returns-in-Err
returns-in-Err c =
    back_exported c.state_of-c.ensures c.standing_of-d.ensures c.go_back.ensures (omega (arith, c.if-state-lt-MARKED_ROOM.false))
    (told-refuses (ap standing_telling c.in-Err.is) c.from-in-Err.ensures)
