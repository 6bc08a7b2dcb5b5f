use Rattle.records.proofs.Refines.ClassLaws.{classes-is, classes-not}
use Rattle.records.specs.View.{termed}
use mathlib.Core.Path.{sym, ◌∙◌}
use Rattle.records.proofs.classes.classes_ok_unchecked.Goals as goal

pub returns-then-parents_hold : goal.returns-then-parents_hold
returns-then-parents_hold c =
    c.classes_hold.ensures ∙ classes-is (termed c.args.terms.now c.args.c) (sym c.parents_hold.ensures ∙ c.if-parents_hold.true)

pub returns-else-parents_hold : goal.returns-else-parents_hold
returns-else-parents_hold c =
    c.if-parents_hold.false ∙ classes-not (termed c.args.terms.now c.args.c) (sym c.parents_hold.ensures ∙ c.if-parents_hold.false)
