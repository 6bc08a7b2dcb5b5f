use Rattle.std.proofs.Common.{rules}
use Rattle.std.proofs.lemmas.Iterator.{YieldsList-from_slice}
use Rattle.std.proofs.lemmas.Iterator.Search.{all_from_yields_List}
use Rattle.std.specs.List.{list_all}
use mathlib.Core.Path.{◌≡◌, ◌∙◌}
use Rattle.records.specs.Store.{is_string}
use Rattle.records.specs.View.{termed}
use Rattle.records.proofs.Lists.{and-next, all-list}
use borrow.Author.Tests.{le-leb}
use Rattle.records.proofs.rules.is_list.Goals as goal

pub returns-then-l-le-LIST_LIMIT : goal.returns-then-l-le-LIST_LIMIT
returns-then-l-le-LIST_LIMIT c =
    let test = is_string (termed c.args.terms.now c.args.c) in
    let h : c.all.result ≡ list_all test c.args.l.now =
    all_from_yields_List test _ _ c.all.result c.all.ensures.ran (YieldsList-from_slice c.args.l.now (search rules)) (λ x b q k. search rules) in
    and-next _ _ _ (le-leb _ _ c.if-l-le-LIST_LIMIT.true) (h ∙ all-list test c.args.l.now)
