use Rattle.capi.proofs.Words.{flag_from, told-by, told_as}
use Rattle.capi.specs.Working.Leaves.{answer_telling}
use mathlib.Core.Path.{ap, ◌∙◌}
use mathlib.Core.List.{[], ◌∷◌}
use Prim.Native.Nat.{ℕ}
use mir.Syntax.{w32}
use mir.Val.{of_z}
use mir.ValLaws.{to_z-of_z}
use native.Mathlib.Omega.{arith}
use Rattle.capi.proofs.telling.tell_answer.Goals as goal

pub tell_words-requires : goal.tell_words-requires
tell_words-requires c =
    (c.requires.0, c.requires.1.counts _ _ (ap answer_telling c.in-Done.is), omega arith)

pub tell_words-requires-in-Saturated : goal.tell_words-requires-in-Saturated
tell_words-requires-in-Saturated c =
    (c.requires.0, c.requires.1.counts _ _ (ap answer_telling c.in-Saturated.is), omega arith)

pub tell_words-requires-in-Conflict : goal.tell_words-requires-in-Conflict
tell_words-requires-in-Conflict c =
    (c.requires.0, c.requires.1.counts _ _ (ap answer_telling c.in-Conflict.is), omega arith)

pub tell_words-requires-in-Propagate : goal.tell_words-requires-in-Propagate
tell_words-requires-in-Propagate c =
    (c.requires.0, c.requires.1.counts _ _ (ap answer_telling c.in-Propagate.is), omega arith)

pub overflow_cast-n : goal.overflow_cast-n
overflow_cast-n c =
    record { fits = (c.requires.1.split _ _ _ _ c.in-Split.is).list }

pub tell_words-requires-in-Split : goal.tell_words-requires-in-Split
tell_words-requires-in-Split c =
    (c.requires.0, c.requires.1.counts _ _ (ap answer_telling c.in-Split.is), omega arith)

pub returns-in-Done : goal.returns-in-Done
returns-in-Done c =
    told-by (ap answer_telling c.in-Done.is) c.tell_words.ensures.is

pub returns-in-Saturated : goal.returns-in-Saturated
returns-in-Saturated c =
    told-by (ap answer_telling c.in-Saturated.is) c.tell_words-in-Saturated.ensures.is

pub returns-in-Conflict : goal.returns-in-Conflict
returns-in-Conflict c =
    told-by (ap answer_telling c.in-Conflict.is) c.tell_words-in-Conflict.ensures.is

pub returns-in-Propagate : goal.returns-in-Propagate
returns-in-Propagate c =
    told_as (ap answer_telling c.in-Propagate.is) c.tell_words-in-Propagate.ensures.is (ap (λ (x : ℕ). 3 ∷ c.in-Propagate.v ∷ c.in-Propagate.w ∷ x ∷ []) (c.from.ensures ∙ flag_from _))

pub returns-in-Split : goal.returns-in-Split
returns-in-Split c =
    told_as (ap answer_telling c.in-Split.is) c.tell_words-in-Split.ensures.is
    (ap (λ (x : ℕ). 4 ∷ c.in-Split.n ∷ x ∷ c.in-Split.k ∷ [])
    (c.cast_unsigned.ensures ∙ ap (of_z w32) (to_z-of_z w32 _ (c.requires.1.split _ _ _ _ c.in-Split.is).guard)))
