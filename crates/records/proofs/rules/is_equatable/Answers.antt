use Rattle.records.specs.Rules.{is_equatable}
use Rattle.std.proofs.lemmas.Bool.Decides.{nat_tests}
use native.Mathlib.Omega.{arith}
use Rattle.records.proofs.rules.is_equatable.Goals as goal

pub returns-then-is_string-2 : goal.returns-then-is_string-2
unfolding is_equatable
returns-then-is_string-2 c = grind (arith, nat_tests)

pub returns-then-is_a : goal.returns-then-is_a
unfolding is_equatable
returns-then-is_a c = grind (arith, nat_tests)

pub returns-else-is_a : goal.returns-else-is_a
unfolding is_equatable
returns-else-is_a c = grind (arith, nat_tests)
