use Rattle.commands.proofs.Numbering.{numbered_odd, numbered_one, numbered_bad, numbered_all, field_within}
use native.Mathlib.Omega.{arith}
use Rattle.commands.proofs.numbers.read_numbers.Goals as goal

pub returns-then-rest-at-ne32 : goal.returns-then-rest-at-ne32
returns-then-rest-at-ne32 c =
    numbered_odd _ _ _ _ _ c.loop-at.invariant c.loop-at-test.true c.if-rest-at-ne32.true

pub slice_bounds-number_of-end : goal.slice_bounds-number_of-end
slice_bounds-number_of-end c =
    field_within _ _ _ (let t = c.loop-at-test.true in omega arith) c.field_end-end.ensures

pub returns-in_err-list : goal.returns-in_err-list
returns-in_err-list c =
    rw c.from_residual.ensures (numbered_bad _ _ _ _ _ c.loop-at.invariant c.loop-at-test.true _ c.if-rest-at-ne32.false c.field_end-end.ensures c.in_err-list.ensures)

pub loop-at-preserved : goal.loop-at-preserved
loop-at-preserved c =
    numbered_one _ _ _ _ _ c.loop-at.invariant c.loop-at-test.true _ c.if-rest-at-ne32.false c.field_end-end.ensures _ c.in_ok-list.ensures c.requires

pub returns : goal.returns
returns c =
    numbered_all _ _ _ _ _ c.loop-at.invariant c.loop-at-test.false c.requires
