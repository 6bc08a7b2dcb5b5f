use Rattle.std.proofs.lemmas.Grind.{common_steps}
use Rattle.std.proofs.Common.{arith}
use Rattle.records.specs.Store.{within}
use Rattle.classes.proofs.trail.comes_first.Goals as goal

pub returns-in-Err-Sizes : goal.returns-in-Err-Sizes
unfolding within
returns-in-Err-Sizes c = grind (arith, common_steps)

pub returns-in_default : goal.returns-in_default
unfolding within
returns-in_default c = grind (arith, common_steps)

pub returns-in_default-2 : goal.returns-in_default-2
unfolding within
returns-in_default-2 c = grind (arith, common_steps)
