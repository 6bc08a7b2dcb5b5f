use borrow.Author.Rules.{rules}
use Rattle.std.proofs.Common.{tests}
use Rattle.std.proofs.lemmas.Iterator.Search.{position_from_yields_List}
use Rattle.std.proofs.lemmas.Iterator.{YieldsList-from_slice}
use Rattle.records.specs.View.{termed}
use Rattle.sides.specs.Working.Sides.{of_kind}
use Rattle.sides.proofs.FirstOfKind.{first-found}
use Rattle.sides.proofs.letters.first_of_kind_unchecked.Goals as goal

pub returns : goal.returns
returns c =
    first-found _ _ _ _
    (position_from_yields_List (of_kind (termed c.args.terms.now c.args.c) c.args.k c.args.is) _ _ _ c.position.ensures.ran (YieldsList-from_slice c.args.l.now cc) (λ x b q k. search (rules, tests)))
    c.unwrap_or.ensures
