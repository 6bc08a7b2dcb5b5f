use Rattle.records.specs.Rules.{part_rule}
use Rattle.records.proofs.Views.{value-at, other_at}
use Rattle.std.proofs.lemmas.Bool.Decides.{nat_tests}
use native.Mathlib.Omega.{arith}
use Rattle.records.proofs.rules.part_ok.Goals as goal

pub returns-then-u-t : goal.returns-then-u-t
unfolding part_rule
returns-then-u-t c = let u = value-at c.args.cells.now _ _ _ c.requires c.value-u.ensures in let o = other_at c.args.cells.now _ _ _ c.requires c.other.ensures in grind (arith, nat_tests)

pub returns-else-u-t : goal.returns-else-u-t
unfolding part_rule
returns-else-u-t c = let u = value-at c.args.cells.now _ _ _ c.requires c.value-u.ensures in let o = other_at c.args.cells.now _ _ _ c.requires c.other.ensures in grind (arith, nat_tests)
