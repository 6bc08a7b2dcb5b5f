use Rattle.capi.proofs.Words.{told-by, told-refuses}
use Rattle.capi.proofs.FormExports.{form_telling, form_untold, form_tellable, form_exported}
use mathlib.Core.Path.{sym, ap, ◌∙◌}
use native.Mathlib.Omega.{arith}
use Rattle.capi.proofs.labels_normal_form.Goals as goal

pub returns-then-not-is_roomy : goal.returns-then-not-is_roomy
returns-then-not-is_roomy c =
    form_untold _ _ _ _ _ _ (sym c.is_roomy.ensures ∙ c.if-not-is_roomy.true) c.from.ensures

pub overflow_cast-n : goal.overflow_cast-n
overflow_cast-n c =
    record { fits = (form_tellable c.normal_form_cited.ensures c.in-Ok.is).list }

pub tell_words-requires : goal.tell_words-requires
tell_words-requires c =
    (sym c.is_roomy.ensures ∙ c.if-not-is_roomy.false, (form_tellable c.normal_form_cited.ensures c.in-Ok.is).counts, omega arith)

pub returns-in-Ok : goal.returns-in-Ok
returns-in-Ok c =
    form_exported c.normal_form_cited.ensures (sym c.is_roomy.ensures ∙ c.if-not-is_roomy.false) c.state_of-c.ensures
    (told-by (ap form_telling c.in-Ok.is) c.tell_words.ensures.is)

pub returns-in-Err : goal.returns-in-Err
returns-in-Err c =
    form_exported c.normal_form_cited.ensures (sym c.is_roomy.ensures ∙ c.if-not-is_roomy.false) c.state_of-c.ensures
    (told-refuses (ap form_telling c.in-Err.is) c.from-in-Err.ensures)
