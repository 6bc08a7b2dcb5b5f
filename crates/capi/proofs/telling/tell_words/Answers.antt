use Rattle.capi.proofs.Words.{roomy-state, roomy-answer}
use native.Mathlib.Omega.{arith}
use Rattle.capi.proofs.telling.tell_words.Goals as goal

pub write_state-requires : goal.write_state-requires
write_state-requires c =
    (roomy-state _ _ _ c.requires.0, c.requires.1)

pub write_words-requires : goal.write_words-requires
write_words-requires c =
    let h = roomy-answer _ _ _ c.requires.0 in let i = c.requires.2 in omega arith
