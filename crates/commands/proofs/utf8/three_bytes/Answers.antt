use Rattle.std.proofs.lemmas.Grind.{common_steps}
use Rattle.std.proofs.Common.{arith}
use Rattle.commands.specs.Utf8.{shaped}
use Rattle.commands.proofs.utf8.three_bytes.Goals as goal

pub returns-then-not-is_next : goal.returns-then-not-is_next
unfolding shaped
returns-then-not-is_next c = grind (arith, common_steps)
