use Rattle.records.specs.Rules.{key_rule}
use Rattle.std.proofs.lemmas.Bool.Decides.{nat_tests}
use native.Mathlib.Omega.{arith}
use Rattle.records.proofs.rules.key_ok.Goals as goal

pub returns-then-is_string : goal.returns-then-is_string
unfolding key_rule
returns-then-is_string c = grind (arith, nat_tests)

pub returns-else-is_string : goal.returns-else-is_string
unfolding key_rule
returns-else-is_string c = grind (arith, nat_tests)
