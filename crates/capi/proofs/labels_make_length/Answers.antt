use mathlib.Core.Path.{sym, ◌∙◌}
use Rattle.capi.proofs.Exports.{untold, tellable, exported}
use Rattle.capi.proofs.Tellings.{length-tells}
use Rattle.capi.proofs.labels_make_length.Goals as goal

pub returns-then-not-is_roomy : goal.returns-then-not-is_roomy
returns-then-not-is_roomy c =
    untold _ _ _ _ _ _ (sym c.is_roomy.ensures ∙ c.if-not-is_roomy.true) c.from.ensures

pub tell-requires : goal.tell-requires
tell-requires c =
    (sym c.is_roomy.ensures ∙ c.if-not-is_roomy.false, tellable (length-tells _) c.make_length-made.ensures)

pub returns : goal.returns
returns c =
    exported (length-tells _) c.make_length-made.ensures (sym c.is_roomy.ensures ∙ c.if-not-is_roomy.false) c.state_of-c.ensures
    c.tell.ensures
