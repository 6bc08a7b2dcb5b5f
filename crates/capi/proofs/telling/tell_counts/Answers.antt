use Rattle.capi.proofs.Words.{told-by, told-refuses}
use Rattle.capi.specs.Working.Leaves.{added_telling}
use mathlib.Core.Path.{refl, ap}
use Rattle.capi.proofs.telling.tell_counts.Goals as goal

pub write_state-requires : goal.write_state-requires
write_state-requires c =
    (c.requires.0, c.requires.1 _ c.in-Ok.is)

pub returns-in-Ok : goal.returns-in-Ok
returns-in-Ok c =
    told-by (ap added_telling c.in-Ok.is) (record { code = refl; state = c.write_state.ensures; answer = refl })

pub returns-in-Err : goal.returns-in-Err
returns-in-Err c =
    told-refuses (ap added_telling c.in-Err.is) c.from.ensures
