use Rattle.capi.proofs.Words.{told-by, told-refuses}
use Rattle.capi.specs.Working.Leaves.{made_telling}
use mathlib.Core.Path.{ap}
use native.Mathlib.Omega.{arith}
use Rattle.capi.proofs.telling.tell.Goals as goal

pub tell_words-requires : goal.tell_words-requires
tell_words-requires c =
    (c.requires.0, c.requires.1 _ _ c.in-Ok.is, omega arith)

pub returns-in-Ok : goal.returns-in-Ok
returns-in-Ok c =
    told-by (ap made_telling c.in-Ok.is) c.tell_words.ensures.is

pub returns-in-Err : goal.returns-in-Err
returns-in-Err c =
    told-refuses (ap made_telling c.in-Err.is) c.from.ensures
