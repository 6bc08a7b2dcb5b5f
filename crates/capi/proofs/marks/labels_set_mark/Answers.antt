use mathlib.Core.Path.{sym, ◌∙◌}
use Rattle.capi.proofs.Standings.{marks-short, tracks_narrow, mark_exported}
use Rattle.capi.proofs.marks.labels_set_mark.Goals as goal

pub returns-then-not-is_roomy : goal.returns-then-not-is_roomy
returns-then-not-is_roomy c =
    marks-short _ _ _ _ _ (sym c.is_roomy.ensures ∙ c.if-not-is_roomy.true) c.from.ensures

pub tell_number-requires : goal.tell_number-requires
tell_number-requires c =
    record {
      room = sym c.is_roomy.ensures ∙ c.if-not-is_roomy.false;
      narrow = tracks_narrow c.set_mark-told.ensures;
    }

pub returns : goal.returns
returns c =
    mark_exported c.state_of-c.ensures c.standing_of-d.ensures c.set_mark-told.ensures
    (sym c.is_roomy.ensures ∙ c.if-not-is_roomy.false) c.tell_number.ensures
