use Rattle.records.specs.Working.Leaves.{has_sides}
use Rattle.std.proofs.lemmas.Bool.Decides.{nat_tests}
use native.Mathlib.Omega.{arith}
use Rattle.records.proofs.build.has_sides.Goals as goal

pub returns-then-first-a : goal.returns-then-first-a
unfolding has_sides
returns-then-first-a c = grind (arith, nat_tests)

pub returns-else-first-a : goal.returns-else-first-a
unfolding has_sides
returns-else-first-a c = grind (arith, nat_tests)
