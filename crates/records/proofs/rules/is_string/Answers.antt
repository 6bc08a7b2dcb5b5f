use Rattle.records.specs.Store.{within}
use Rattle.std.proofs.lemmas.Bool.Decides.{nat_tests}
use native.Mathlib.Omega.{arith}
use Rattle.records.proofs.rules.is_string.Goals as goal

pub returns-in-1-to-3 : goal.returns-in-1-to-3
unfolding within
returns-in-1-to-3 c = grind (arith, nat_tests)

pub returns-in_default : goal.returns-in_default
unfolding within
returns-in_default c = grind (arith, nat_tests)

pub returns-in_default-2 : goal.returns-in_default-2
unfolding within
returns-in_default-2 c = grind (arith, nat_tests)
