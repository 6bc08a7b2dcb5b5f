use Rattle.std.proofs.lemmas.Grind.{common_steps}
use Rattle.std.proofs.Common.{arith}
use Rattle.commands.specs.Utf8.{shaped}
use Rattle.commands.proofs.utf8.shape.Goals as goal

pub returns : goal.returns
unfolding shaped
returns c = grind (arith, common_steps)
