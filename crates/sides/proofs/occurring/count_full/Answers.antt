use mathlib.Core.Path.{ap, ◌∙◌}
use lib.ListN.{length}
use borrow.Author.Rules.{rules}
use Rattle.std.proofs.Common.{tests}
use Rattle.std.proofs.lemmas.Iterator.{YieldsList-from_slice}
use Rattle.std.proofs.lemmas.Iterator.Consumers.{count_from_yields_List, YieldsList-from_filter}
use Rattle.records.specs.View.{termed}
use Rattle.sides.specs.Wordeq.{is_full}
use Rattle.sides.proofs.Kept.{filter-keep}
use Rattle.sides.proofs.occurring.count_full.Goals as goal

pub returns : goal.returns
returns c =
    count_from_yields_List c.filter.result _ c.count.ensures.ran
    (YieldsList-from_filter _ (is_full (termed c.args.terms.now c.args.c)) (YieldsList-from_slice c.args.l.now cc) c.filter.ensures.closure (λ x r q k. search (rules, tests)))
    ∙ ap length (filter-keep (is_full (termed c.args.terms.now c.args.c)) c.args.l.now)
