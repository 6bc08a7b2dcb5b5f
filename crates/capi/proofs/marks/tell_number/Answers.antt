use Rattle.capi.proofs.Words.{roomy-state, roomy-answer, told-by, told-refuses}
use Rattle.capi.specs.Working.Standings.{number_telling}
use mathlib.Core.Path.{refl, ap}
use native.Mathlib.Omega.{arith}
use Rattle.capi.proofs.marks.tell_number.Goals as goal

pub write_standing-requires : goal.write_standing-requires
write_standing-requires c =
    (roomy-state _ _ _ c.requires.room, c.requires.narrow.counts _ _ c.in-Ok.is)

pub write_words-requires : goal.write_words-requires
write_words-requires c =
    let h = roomy-answer _ _ _ c.requires.room in omega arith

pub returns-in-Ok : goal.returns-in-Ok
returns-in-Ok c =
    told-by (ap number_telling c.in-Ok.is) (record { code = refl; state = c.write_standing.ensures; answer = c.write_words.ensures })

pub returns-in-Err : goal.returns-in-Err
returns-in-Err c =
    told-refuses (ap number_telling c.in-Err.is) c.from.ensures
