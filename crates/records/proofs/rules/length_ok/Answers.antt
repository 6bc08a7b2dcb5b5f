use Rattle.records.specs.Rules.{length_rule}
use Rattle.records.proofs.Views.{first-at, second_at}
use Rattle.std.proofs.lemmas.Bool.Decides.{nat_tests}
use native.Mathlib.Omega.{arith}
use Rattle.records.proofs.rules.length_ok.Goals as goal

pub returns-then-u-t : goal.returns-then-u-t
unfolding length_rule
returns-then-u-t c = let u = first-at c.args.terms.now _ _ _ c.requires c.first-u.ensures in let o = second_at c.args.terms.now _ _ _ c.requires c.second.ensures in grind (arith, nat_tests)

pub returns-else-u-t : goal.returns-else-u-t
unfolding length_rule
returns-else-u-t c = let u = first-at c.args.terms.now _ _ _ c.requires c.first-u.ensures in let o = second_at c.args.terms.now _ _ _ c.requires c.second.ensures in grind (arith, nat_tests)
