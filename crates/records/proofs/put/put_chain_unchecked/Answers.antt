use Rattle.records.proofs.Refines.Puts.{chained-turn, chained-end, chain-empty}
use borrow.Author.Tests.{eqb-true}
use mathlib.Core.Path.{sym, ◌∙◌}
use native.Mathlib.Omega.{arith}
use borrow.Author.Rules.{rules}
use Rattle.records.proofs.put.put_chain_unchecked.Goals as goal

pub returns-then-is_empty : goal.returns-then-is_empty
returns-then-is_empty c =
    let z = eqb-true _ _ (sym c.is_empty.ensures ∙ c.if-is_empty.true) in search chain-empty

pub loop-i-preserved : goal.loop-i-preserved
loop-i-preserved c =
    (omega arith, chained-turn _ _ _ _ _ _ _ c.loop-i.invariant.1 c.loop-i-test.true c.loop-i.invariant.0 c.put_cell.ensures (search rules))

pub returns : goal.returns
returns c =
    search chained-end
