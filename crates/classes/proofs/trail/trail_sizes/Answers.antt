use Rattle.std.proofs.lemmas.Grind.{common_steps}
use Rattle.std.proofs.Common.{arith}
use Rattle.classes.specs.Marks.{trail_sizes}
use Rattle.classes.proofs.trail.trail_sizes.Goals as goal

pub returns-then-d-le-JOIN_LIMIT : goal.returns-then-d-le-JOIN_LIMIT
unfolding trail_sizes
returns-then-d-le-JOIN_LIMIT c = grind (arith, common_steps)

pub returns-else-d-le-JOIN_LIMIT : goal.returns-else-d-le-JOIN_LIMIT
unfolding trail_sizes
returns-else-d-le-JOIN_LIMIT c = grind (arith, common_steps)
