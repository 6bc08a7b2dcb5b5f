use Rattle.records.specs.Store.{within}
use Rattle.std.proofs.lemmas.Bool.Decides.{nat_tests}
use native.Mathlib.Omega.{arith}
use Rattle.records.proofs.rules.is_within.Goals as goal

pub returns-then-t-ne0 : goal.returns-then-t-ne0
unfolding within
returns-then-t-ne0 c = grind (arith, nat_tests)

pub returns-else-t-ne0 : goal.returns-else-t-ne0
unfolding within
returns-else-t-ne0 c = grind (arith, nat_tests)
