use mathlib.Core.List.{[]}
use Rattle.records.proofs.Lists.{within-is, upto_more, upto-stop, upto-done}
use Rattle.records.specs.Rules.{cell_rule}
use Rattle.records.specs.View.{chained, cell_at}
use Prim.Native.Nat.{suc}
use native.Mathlib.Omega.{arith}
use Rattle.records.proofs.rules.cells_ok.Goals as goal

pub cell_ok-requires : goal.cell_ok-requires
cell_ok-requires c = within-is _ _ (omega arith) (omega arith)

pub returns-then-not-cell_ok : goal.returns-then-not-cell_ok
returns-then-not-cell_ok c =
    let a = c.args in
    upto-stop (λ j. cell_at a.cells.now (suc j)) (cell_rule (chained [] a.cells.now a.c)) a.c.cells _ _ c.cell_ok.ensures c.if-not-cell_ok.true (omega arith) (omega arith)

pub returns : goal.returns
returns c =
    let a = c.args in upto-done (λ j. cell_at a.cells.now (suc j)) (cell_rule (chained [] a.cells.now a.c)) a.c.cells _ c.loop-i.invariant (omega arith)

pub returns-else-not-cell_ok : goal.returns-else-not-cell_ok
returns-else-not-cell_ok c =
    let a = c.args in
    upto-done (λ j. cell_at a.cells.now (suc j)) (cell_rule (chained [] a.cells.now a.c)) a.c.cells _ (upto_more _ _ _ c.loop-i.invariant c.cell_ok.ensures c.if-not-cell_ok.false) (omega arith)
