use Rattle.capi.proofs.Exports.{untold}
use Rattle.capi.proofs.Engines.{find-told, find_untold}
use mathlib.Core.Path.{sym, ◌∙◌}
use native.Mathlib.Omega.{arith}
use Rattle.capi.proofs.labels_find.Goals as goal

pub returns-then-not-is_roomy : goal.returns-then-not-is_roomy
returns-then-not-is_roomy c =
    untold _ _ _ _ _ _ (sym c.is_roomy.ensures ∙ c.if-not-is_roomy.true) c.from.ensures

pub tell_still-requires : goal.tell_still-requires
tell_still-requires c =
    (sym c.is_roomy.ensures ∙ c.if-not-is_roomy.false, omega arith)

pub returns-in-Ok : goal.returns-in-Ok
returns-in-Ok c =
    find-told _ _ _ _ c.find.ensures _ _ (sym c.is_roomy.ensures ∙ c.if-not-is_roomy.false) c.state_of-c.ensures c.in-Ok.is c.tell_still.ensures.is

pub returns-in-Err : goal.returns-in-Err
returns-in-Err c =
    find_untold _ _ _ _ c.find.ensures _ _ (sym c.is_roomy.ensures ∙ c.if-not-is_roomy.false) c.state_of-c.ensures c.in-Err.is c.from-in-Err.ensures
