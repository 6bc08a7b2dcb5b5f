use Rattle.records.specs.View.{sizes}
use native.Mathlib.Omega.{arith}
use Rattle.records.proofs.rules.sizes.Goals as goal

pub returns-then-fits-4 : goal.returns-then-fits-4
unfolding sizes
returns-then-fits-4 c = grind arith

pub returns-else-fits-4 : goal.returns-else-fits-4
unfolding sizes
returns-else-fits-4 c = grind arith
