use Rattle.records.specs.Working.Leaves.{has_parts}
use Rattle.std.proofs.lemmas.Bool.Decides.{nat_tests}
use native.Mathlib.Omega.{arith}
use Rattle.records.proofs.build.has_parts.Goals as goal

pub returns-then-is_a : goal.returns-then-is_a
unfolding has_parts
returns-then-is_a c = grind (arith, nat_tests)

pub returns-else-is_a : goal.returns-else-is_a
unfolding has_parts
returns-else-is_a c = grind (arith, nat_tests)
