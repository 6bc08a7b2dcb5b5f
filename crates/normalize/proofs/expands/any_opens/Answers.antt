use mathlib.Core.Path.{◌∙◌}
use borrow.Author.Rules.{rules}
use borrow.Author.Tests.{tests}
use Rattle.std.proofs.lemmas.Iterator.{YieldsList-from_slice}
use Rattle.std.proofs.lemmas.Iterator.Search.{any_from_yields_List}
use Rattle.records.specs.View.{terms_view}
use Rattle.normalize.specs.Working.Deeps.{opens_in}
use Rattle.normalize.proofs.Refines.Words.{any_listed}
use Rattle.normalize.proofs.expands.any_opens.Goals as goal

pub returns : goal.returns
returns c =
    any_from_yields_List (opens_in (terms_view c.args.terms.now c.args.n) c.args.t) _ _ _ c.any.ensures.ran
    (YieldsList-from_slice c.args.list.now cc) (λ x b q k. search (rules, tests)) ∙ any_listed _ _
