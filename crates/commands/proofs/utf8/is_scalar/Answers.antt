use Rattle.std.proofs.lemmas.Grind.{common_steps}
use Rattle.std.proofs.Common.{arith}
use Rattle.commands.specs.Utf8.{is_scalar}
use Rattle.commands.proofs.utf8.is_scalar.Goals as goal

pub returns-then-x-lt55296 : goal.returns-then-x-lt55296
unfolding is_scalar
returns-then-x-lt55296 c = grind (arith, common_steps)

pub returns-else-x-lt55296 : goal.returns-else-x-lt55296
unfolding is_scalar
returns-else-x-lt55296 c = grind (arith, common_steps)

pub returns-else-is_char : goal.returns-else-is_char
unfolding is_scalar
returns-else-is_char c = grind (arith, common_steps)
