use Rattle.capi.proofs.Words.{roomy-state, roomy-answer, written_same}
use mathlib.Core.Path.{refl}
use native.Mathlib.Omega.{arith}
use Rattle.capi.proofs.telling.tell_still.Goals as goal

pub write_words-requires : goal.write_words-requires
write_words-requires c =
    let h = roomy-answer _ _ _ c.requires.0 in let i = c.requires.1 in omega arith

pub returns : goal.returns
returns c =
    record { is = record { code = refl; state = written_same _ (roomy-state _ _ _ c.requires.0); answer = c.write_words.ensures } }
