use mathlib.Core.Path.{◌∙◌, ap}
use mir.Facts.{to_z-of_z}
use lib.IntN.{nat_abs}
use Rattle.std.proofs.Common.{arith}
use Rattle.commands.proofs.Printing.{below_test, guard-below, guard-above}
use Rattle.commands.proofs.print.put_guard.Goals as goal

pub returns-then-g-lt0 : goal.returns-then-g-lt0
returns-then-g-lt0 c =
    guard-below c.args.out.now _ _ _ _ (omega arith) (c.from-size.ensures ∙ c.unsigned_abs.ensures.value ∙ ap nat_abs (to_z-of_z c.ranges.g)) _
    (below_test _ c.ranges.g) c.if-g-lt0.true c.put_digits.auto.out c.put_digits.ensures

pub returns-else-g-lt0 : goal.returns-else-g-lt0
returns-else-g-lt0 c =
    guard-above c.args.out.now _ _ _ _ (omega arith) (c.from-size.ensures ∙ c.unsigned_abs.ensures.value ∙ ap nat_abs (to_z-of_z c.ranges.g)) _
    (below_test _ c.ranges.g) c.if-g-lt0.false c.put_digits-else-g-lt0.auto.out c.put_digits-else-g-lt0.ensures
