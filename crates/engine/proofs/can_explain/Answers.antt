use mathlib.Core.Path.{sym, ◌∙◌}
use Rattle.records.proofs.Lists.{clash}
use Rattle.engine.proofs.Refines.EngineCalls.{string_root}
use Rattle.engine.proofs.can_explain.Goals.{then-is_string, else-is_string}
use Rattle.engine.proofs.can_explain.Goals as goal

pub root_unchecked-requires : goal.root_unchecked-requires
root_unchecked-requires c =
    elim c.if-is_string.branch [
      | then-is_string w ↦ string_root _ c.requires c.is_string.ensures w.if-is_string.true
      | else-is_string w ↦ clash (sym w.value-is ∙ c.if-is_string-2.true) w.if-is_string.false
    ]

pub root_unchecked-requires-then-is_string-2 : goal.root_unchecked-requires-then-is_string-2
root_unchecked-requires-then-is_string-2 c =
    elim c.if-is_string.branch [
      | then-is_string w ↦ string_root _ c.requires w.is_string-then-is_string.ensures (sym w.value-is ∙ c.if-is_string-2.true)
      | else-is_string w ↦ clash (sym w.value-is ∙ c.if-is_string-2.true) w.if-is_string.false
    ]
