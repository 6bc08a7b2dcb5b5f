use Rattle.records.specs.Rules.{cell_rule}
use Rattle.records.proofs.Views.{next_at_lem}
use Rattle.std.proofs.lemmas.Bool.Decides.{nat_tests}
use native.Mathlib.Omega.{arith}
use Rattle.records.proofs.Lists.{table-length}
use Rattle.records.specs.View.{cell_at}
use Prim.Native.Nat.{suc}
use Rattle.records.proofs.rules.cell_ok.Goals as goal

pub returns-then-next-eq0 : goal.returns-then-next-eq0
unfolding cell_rule
returns-then-next-eq0 c = let e = next_at_lem c.args.cells.now _ _ _ c.requires c.next-next.ensures in let n = table-length (λ j. cell_at c.args.cells.now (suc j)) c.args.c.cells in grind (arith, nat_tests)

pub returns-then-i-next : goal.returns-then-i-next
unfolding cell_rule
returns-then-i-next c = let e = next_at_lem c.args.cells.now _ _ _ c.requires c.next-next.ensures in let n = table-length (λ j. cell_at c.args.cells.now (suc j)) c.args.c.cells in grind (arith, nat_tests)

pub returns-else-i-next : goal.returns-else-i-next
unfolding cell_rule
returns-else-i-next c = let e = next_at_lem c.args.cells.now _ _ _ c.requires c.next-next.ensures in let n = table-length (λ j. cell_at c.args.cells.now (suc j)) c.args.c.cells in grind (arith, nat_tests)
