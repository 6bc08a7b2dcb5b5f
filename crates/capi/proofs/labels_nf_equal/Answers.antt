use Rattle.capi.proofs.Words.{flag_from}
use Rattle.capi.proofs.EqualExports.{equal-short, equal-told, equal_untold}
use mathlib.Core.Path.{sym, ◌∙◌}
use native.Mathlib.Omega.{arith}
use Rattle.capi.proofs.labels_nf_equal.Goals as goal

pub returns-then-not-is_roomy : goal.returns-then-not-is_roomy
returns-then-not-is_roomy c =
    equal-short _ _ _ _ _ (sym c.is_roomy.ensures ∙ c.if-not-is_roomy.true) c.from.ensures

pub tell_still-requires : goal.tell_still-requires
tell_still-requires c =
    (sym c.is_roomy.ensures ∙ c.if-not-is_roomy.false, omega arith)

pub returns-in-Ok : goal.returns-in-Ok
returns-in-Ok c =
    equal-told _ _ _ _ _ c.nf_equal.ensures _ _ (sym c.is_roomy.ensures ∙ c.if-not-is_roomy.false) c.state_of-c.ensures c.in-Ok.is
    (c.from-in-Ok.ensures ∙ flag_from _) c.tell_still.ensures.is

pub returns-in-Err : goal.returns-in-Err
returns-in-Err c =
    equal_untold _ _ _ _ _ c.nf_equal.ensures _ _ (sym c.is_roomy.ensures ∙ c.if-not-is_roomy.false) c.state_of-c.ensures c.in-Err.is c.from-in-Err.ensures
