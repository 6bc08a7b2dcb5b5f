use mathlib.Core.Path.{ap, ◌∙◌}
use mathlib.Core.Bool.{not}
use Prim.Native.Nat.{ℕ}
use lib.ListN.{length}
use borrow.Author.Rules.{rules}
use Rattle.std.proofs.Common.{tests}
use Rattle.std.proofs.lemmas.Iterator.{YieldsList-from_slice}
use Rattle.std.proofs.lemmas.Iterator.Consumers.{count_from_yields_List, YieldsList-from_filter}
use Rattle.records.specs.View.{termed}
use Rattle.records.specs.Store.{is_constant}
use Rattle.sides.proofs.Kept.{filter-keep}
use Rattle.sides.proofs.spans.variables_length.Goals as goal

pub returns : goal.returns
returns c =
    count_from_yields_List c.filter.result _ c.count.ensures.ran
    (YieldsList-from_filter _ (λ (a : ℕ). not (is_constant (termed c.args.terms.now c.args.c) a)) (YieldsList-from_slice c.args.l.now cc) c.filter.ensures.closure (λ x r q k. search (rules, tests)))
    ∙ ap length (filter-keep (λ (a : ℕ). not (is_constant (termed c.args.terms.now c.args.c) a)) c.args.l.now)
