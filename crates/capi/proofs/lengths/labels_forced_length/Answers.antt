use Rattle.std.specs.Prelude.{Ok}
use Rattle.capi.proofs.Words.{told-by, told-refuses}
use Rattle.capi.specs.Interface.{state_of}
use Rattle.capi.proofs.LengthExports.{forced_telling, forced_untold, forced_tellable, forced_exported}
use mathlib.Core.Path.{sym, ap, ◌∙◌}
use native.Mathlib.Omega.{arith}
use Rattle.capi.proofs.lengths.labels_forced_length.Goals as goal

pub returns-then-not-is_roomy : goal.returns-then-not-is_roomy
returns-then-not-is_roomy c =
    forced_untold _ _ _ _ _ (sym c.is_roomy.ensures ∙ c.if-not-is_roomy.true) c.from.ensures

pub overflow_cast-words : goal.overflow_cast-words
overflow_cast-words c =
    record { fits = ((forced_tellable c.forced_length.ensures).spans (c.in-Ok-Spans.is ∙ ap Ok c.in-Ok-Spans.field-0-is)).0 }

pub overflow_cast-words-in-Ok-Spans : goal.overflow_cast-words-in-Ok-Spans
overflow_cast-words-in-Ok-Spans c =
    record { fits = ((forced_tellable c.forced_length.ensures).spans (c.in-Ok-Spans.is ∙ ap Ok c.in-Ok-Spans.field-0-is)).1 }

pub overflow_cast-words-in-Ok-Spans-2 : goal.overflow_cast-words-in-Ok-Spans-2
overflow_cast-words-in-Ok-Spans-2 c =
    record { fits = ((forced_tellable c.forced_length.ensures).spans (c.in-Ok-Spans.is ∙ ap Ok c.in-Ok-Spans.field-0-is)).2 }

pub overflow_cast-words-in-Ok-Spans-3 : goal.overflow_cast-words-in-Ok-Spans-3
overflow_cast-words-in-Ok-Spans-3 c =
    record { fits = ((forced_tellable c.forced_length.ensures).spans (c.in-Ok-Spans.is ∙ ap Ok c.in-Ok-Spans.field-0-is)).3 }

pub overflow_cast-words-in-Ok-Spans-4 : goal.overflow_cast-words-in-Ok-Spans-4
overflow_cast-words-in-Ok-Spans-4 c =
    record { fits = ((forced_tellable c.forced_length.ensures).spans (c.in-Ok-Spans.is ∙ ap Ok c.in-Ok-Spans.field-0-is)).4 }

pub tell_still-requires : goal.tell_still-requires
tell_still-requires c =
    (sym c.is_roomy.ensures ∙ c.if-not-is_roomy.false, omega arith)

pub overflow_cast-words-in-Ok-Shortage : goal.overflow_cast-words-in-Ok-Shortage
overflow_cast-words-in-Ok-Shortage c =
    record { fits = ((forced_tellable c.forced_length.ensures).shortage (c.in-Ok-Shortage.is ∙ ap Ok c.in-Ok-Shortage.field-0-is)).0 }

pub overflow_cast-words-in-Ok-Shortage-2 : goal.overflow_cast-words-in-Ok-Shortage-2
overflow_cast-words-in-Ok-Shortage-2 c =
    record { fits = ((forced_tellable c.forced_length.ensures).shortage (c.in-Ok-Shortage.is ∙ ap Ok c.in-Ok-Shortage.field-0-is)).1 }

pub overflow_cast-words-in-Ok-Shortage-3 : goal.overflow_cast-words-in-Ok-Shortage-3
overflow_cast-words-in-Ok-Shortage-3 c =
    record { fits = ((forced_tellable c.forced_length.ensures).shortage (c.in-Ok-Shortage.is ∙ ap Ok c.in-Ok-Shortage.field-0-is)).2 }

pub overflow_cast-words-in-Ok-Shortage-4 : goal.overflow_cast-words-in-Ok-Shortage-4
overflow_cast-words-in-Ok-Shortage-4 c =
    record { fits = ((forced_tellable c.forced_length.ensures).shortage (c.in-Ok-Shortage.is ∙ ap Ok c.in-Ok-Shortage.field-0-is)).3 }

pub tell_still-requires-in-Ok-Shortage : goal.tell_still-requires-in-Ok-Shortage
tell_still-requires-in-Ok-Shortage c =
    (sym c.is_roomy.ensures ∙ c.if-not-is_roomy.false, omega arith)

pub returns-in-Ok-Spans : goal.returns-in-Ok-Spans
returns-in-Ok-Spans c =
    forced_exported c.forced_length.ensures (sym c.is_roomy.ensures ∙ c.if-not-is_roomy.false) c.state_of-c.ensures
    (told-by (ap (forced_telling (state_of c.args.state.now)) (c.in-Ok-Spans.is ∙ ap Ok c.in-Ok-Spans.field-0-is)) c.tell_still.ensures.is)

pub returns-in-Ok-Shortage : goal.returns-in-Ok-Shortage
returns-in-Ok-Shortage c =
    forced_exported c.forced_length.ensures (sym c.is_roomy.ensures ∙ c.if-not-is_roomy.false) c.state_of-c.ensures
    (told-by (ap (forced_telling (state_of c.args.state.now)) (c.in-Ok-Shortage.is ∙ ap Ok c.in-Ok-Shortage.field-0-is)) c.tell_still-in-Ok-Shortage.ensures.is)

pub returns-in-Err : goal.returns-in-Err
returns-in-Err c =
    forced_exported c.forced_length.ensures (sym c.is_roomy.ensures ∙ c.if-not-is_roomy.false) c.state_of-c.ensures
    (told-refuses (ap (forced_telling (state_of c.args.state.now)) c.in-Err.is) c.from-in-Err.ensures)
