use Rattle.std.proofs.lemmas.Grind.{common_steps}
use Rattle.std.proofs.Common.{arith}
use Rattle.commands.specs.Utf8.{is_next}
use Rattle.commands.proofs.utf8.is_next.Goals as goal

pub returns-in-128-to-191 : goal.returns-in-128-to-191
unfolding is_next
returns-in-128-to-191 c = grind (arith, common_steps)

pub returns-in_default : goal.returns-in_default
unfolding is_next
returns-in_default c = grind (arith, common_steps)

pub returns-in_default-2 : goal.returns-in_default-2
unfolding is_next
returns-in_default-2 c = grind (arith, common_steps)
