use Rattle.records.specs.Rules.{concat_rule}
use Rattle.records.proofs.Views.{first-at, second_at}
use Rattle.std.proofs.lemmas.Bool.Decides.{nat_tests}
use native.Mathlib.Omega.{arith}
use Rattle.records.proofs.rules.concat_ok.Goals as goal

pub returns-then-second-eq0 : goal.returns-then-second-eq0
unfolding concat_rule
returns-then-second-eq0 c = let u = first-at c.args.terms.now _ _ _ c.requires c.first-f.ensures in let o = second_at c.args.terms.now _ _ _ c.requires c.second.ensures in grind (arith, nat_tests)

pub returns-else-second-eq0 : goal.returns-else-second-eq0
unfolding concat_rule
returns-else-second-eq0 c = let u = first-at c.args.terms.now _ _ _ c.requires c.first-f.ensures in let o = second_at c.args.terms.now _ _ _ c.requires c.second.ensures in grind (arith, nat_tests)
