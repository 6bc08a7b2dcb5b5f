use Rattle.std.proofs.lemmas.Grind.{common_steps}
use native.Mathlib.Omega.{arith}
use Rattle.sides.specs.Working.Sides.{of_kind}
use Rattle.sides.proofs.letters.is_kind.Goals as goal

pub returns : goal.returns
unfolding of_kind
returns c = grind (arith, common_steps)
