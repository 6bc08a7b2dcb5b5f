use Rattle.std.specs.Prelude.{Option, Ok}
use Prim.Native.Nat.{ℕ}
use Rattle.capi.proofs.Words.{told-by, told-refuses}
use Rattle.capi.proofs.FormExports.{deep_telling, deep_untold, deep_tellable, none_tellable, deep_exported}
use mathlib.Core.Path.{sym, ap, ◌∙◌}
use native.Mathlib.Omega.{arith}
use Rattle.capi.proofs.labels_deep_normal_form.Goals as goal

pub returns-then-not-is_roomy : goal.returns-then-not-is_roomy
returns-then-not-is_roomy c =
    deep_untold _ _ _ _ _ _ (sym c.is_roomy.ensures ∙ c.if-not-is_roomy.true) c.from.ensures

pub overflow_cast-n : goal.overflow_cast-n
overflow_cast-n c =
    record { fits = (deep_tellable c.deep_normal_form_cited-made.ensures (c.in-Ok-Some-default.is ∙ ap (λ (x : Option ℕ). Ok (x, c.in-Ok-Some-default.d)) (rw c.in-Ok-Some-default.is at c.in-Ok-Some-default.field-0-0-is))).list }

pub tell_words-requires : goal.tell_words-requires
tell_words-requires c =
    (sym c.is_roomy.ensures ∙ c.if-not-is_roomy.false, (deep_tellable c.deep_normal_form_cited-made.ensures (c.in-Ok-Some-default.is ∙ ap (λ (x : Option ℕ). Ok (x, c.in-Ok-Some-default.d)) (rw c.in-Ok-Some-default.is at c.in-Ok-Some-default.field-0-0-is))).counts, omega arith)

pub returns-in-Ok-Some-default : goal.returns-in-Ok-Some-default
returns-in-Ok-Some-default c =
    deep_exported c.deep_normal_form_cited-made.ensures (sym c.is_roomy.ensures ∙ c.if-not-is_roomy.false) c.state_of-c.ensures
    (told-by (ap deep_telling (c.in-Ok-Some-default.is ∙ ap (λ (x : Option ℕ). Ok (x, c.in-Ok-Some-default.d)) (rw c.in-Ok-Some-default.is at c.in-Ok-Some-default.field-0-0-is))) c.tell_words.ensures.is)

pub tell_words-requires-in-Ok-None-default : goal.tell_words-requires-in-Ok-None-default
tell_words-requires-in-Ok-None-default c =
    (sym c.is_roomy.ensures ∙ c.if-not-is_roomy.false, none_tellable c.deep_normal_form_cited-made.ensures (c.in-Ok-None-default.is ∙ ap (λ (x : Option ℕ). Ok (x, c.in-Ok-None-default.d)) (rw c.in-Ok-None-default.is at c.in-Ok-None-default.field-0-0-is)), omega arith)

pub returns-in-Ok-None-default : goal.returns-in-Ok-None-default
returns-in-Ok-None-default c =
    deep_exported c.deep_normal_form_cited-made.ensures (sym c.is_roomy.ensures ∙ c.if-not-is_roomy.false) c.state_of-c.ensures
    (told-by (ap deep_telling (c.in-Ok-None-default.is ∙ ap (λ (x : Option ℕ). Ok (x, c.in-Ok-None-default.d)) (rw c.in-Ok-None-default.is at c.in-Ok-None-default.field-0-0-is))) c.tell_words-in-Ok-None-default.ensures.is)

pub returns-in-Err : goal.returns-in-Err
returns-in-Err c =
    deep_exported c.deep_normal_form_cited-made.ensures (sym c.is_roomy.ensures ∙ c.if-not-is_roomy.false) c.state_of-c.ensures
    (told-refuses (ap deep_telling c.in-Err.is) c.from-in-Err.ensures)
