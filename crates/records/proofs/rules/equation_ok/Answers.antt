use Rattle.records.specs.Rules.{equation_rule}
use Rattle.records.proofs.Views.{first-at, second_at}
use Rattle.std.proofs.lemmas.Bool.Decides.{nat_tests}
use native.Mathlib.Omega.{arith}
use Rattle.records.proofs.rules.equation_ok.Goals as goal

pub returns-then-b-t : goal.returns-then-b-t
unfolding equation_rule
returns-then-b-t c = let u = first-at c.args.terms.now _ _ _ c.requires c.first-a.ensures in let o = second_at c.args.terms.now _ _ _ c.requires c.second-b.ensures in grind (arith, nat_tests)

pub returns-else-b-t : goal.returns-else-b-t
unfolding equation_rule
returns-else-b-t c = let u = first-at c.args.terms.now _ _ _ c.requires c.first-a.ensures in let o = second_at c.args.terms.now _ _ _ c.requires c.second-b.ensures in grind (arith, nat_tests)
