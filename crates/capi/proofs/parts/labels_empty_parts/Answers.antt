use Rattle.capi.proofs.Words.{flag_from, told_as, told-refuses}
use Rattle.capi.proofs.PartExports.{parts_telling, parts_untold, parts_tellable, parts_exported}
use mathlib.Core.Path.{sym, ap, ◌∙◌}
use mathlib.Core.List.{[], ◌∷◌}
use Prim.Native.Nat.{ℕ}
use native.Mathlib.Omega.{arith}
use Rattle.capi.proofs.parts.labels_empty_parts.Goals as goal

pub returns-then-not-is_roomy : goal.returns-then-not-is_roomy
returns-then-not-is_roomy c =
    parts_untold _ _ _ _ _ _ (sym c.is_roomy.ensures ∙ c.if-not-is_roomy.true) c.from.ensures

pub overflow_cast-words : goal.overflow_cast-words
overflow_cast-words c =
    record { fits = (parts_tellable c.empty_parts.ensures c.in-Ok.is).list }

pub tell_words-requires : goal.tell_words-requires
tell_words-requires c =
    (sym c.is_roomy.ensures ∙ c.if-not-is_roomy.false, (parts_tellable c.empty_parts.ensures c.in-Ok.is).counts, omega arith)

pub returns-in-Ok : goal.returns-in-Ok
returns-in-Ok c =
    parts_exported c.empty_parts.ensures (sym c.is_roomy.ensures ∙ c.if-not-is_roomy.false) c.state_of-c.ensures
    (told_as (ap parts_telling c.in-Ok.is) c.tell_words.ensures.is (ap (λ (x : ℕ). c.in-Ok.parts.listed ∷ c.in-Ok.parts.empty ∷ x ∷ []) (c.from-in-Ok.ensures ∙ flag_from _)))

pub returns-in-Err : goal.returns-in-Err
returns-in-Err c =
    parts_exported c.empty_parts.ensures (sym c.is_roomy.ensures ∙ c.if-not-is_roomy.false) c.state_of-c.ensures
    (told-refuses (ap parts_telling c.in-Err.is) c.from-in-Err.ensures)
