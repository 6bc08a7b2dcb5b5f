use mathlib.Core.Path.{◌∙◌, sym}
use Rattle.records.proofs.Lists.{clash}
use Rattle.normalize.proofs.Refines.Pushing.{joins-none, joins-other, joins-last}
use Rattle.normalize.proofs.pushes.joins_with_last.Goals as goal
use Rattle.normalize.proofs.pushes.joins_with_last.Goals.{then-count-ne0, else-count-ne0}

pub returns-then-is_a : goal.returns-then-is_a
returns-then-is_a c =
    elim c.if-count-ne0.branch [
      | then-count-ne0 w ↦ joins-last _ _ c.args.list.now _ _ _ w.if-count-ne0.true w.is_a.ensures (sym w.value-is ∙ c.if-is_a.true) c.is_a-then-is_a.ensures
      | else-count-ne0 w ↦ clash (sym w.value-is ∙ c.if-is_a.true) (rw w.if-count-ne0.false)
    ]

pub returns-else-is_a : goal.returns-else-is_a
returns-else-is_a c =
    elim c.if-count-ne0.branch [
      | then-count-ne0 w ↦ c.if-is_a.false ∙ joins-other _ _ _ _ w.is_a.ensures (sym w.value-is ∙ c.if-is_a.false)
      | else-count-ne0 w ↦ c.if-is_a.false ∙ joins-none _ _ c.args.list.now _ w.if-count-ne0.false
    ]
