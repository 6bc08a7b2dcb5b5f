use mathlib.Core.Path.{sym, ◌∙◌}
use Rattle.records.proofs.Views.{kind_at}
use Rattle.records.proofs.Refines.RuleLaws.{kind-none}
use Rattle.records.proofs.rules.kind_of.Goals as goal

pub returns-then-is_within : goal.returns-then-is_within
returns-then-is_within c = kind_at c.args.terms.now _ _ _ (sym c.is_within.ensures ∙ c.if-is_within.true) c.kind.ensures

pub returns-else-is_within : goal.returns-else-is_within
returns-else-is_within c = kind-none c.args.terms.now _ _ (sym c.is_within.ensures ∙ c.if-is_within.false)
