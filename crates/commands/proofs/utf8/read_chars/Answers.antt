use Rattle.commands.proofs.Decoding.{decoded_none, decoded_one, decoded_bad, decoded_all, char_size}
use native.Mathlib.Omega.{arith}
use Rattle.commands.proofs.utf8.read_chars.Goals as goal

pub loop-at-init : goal.loop-at-init
loop-at-init c =
    decoded_none _ _

pub returns-in_err-k : goal.returns-in_err-k
returns-in_err-k c =
    rw c.from_residual.ensures (decoded_bad _ _ _ _ _ c.loop-at.invariant c.loop-at-test.true c.in_err-k.ensures)

pub overflow_add-at : goal.overflow_add-at
overflow_add-at c =
    let z = char_size _ _ _ c.in_ok-k.ensures in let t = c.loop-at-test.true in omega arith

pub loop-at-smaller : goal.loop-at-smaller
loop-at-smaller c =
    let z = char_size _ _ _ c.in_ok-k.ensures in let t = c.loop-at-test.true in omega arith

pub loop-at-preserved : goal.loop-at-preserved
loop-at-preserved c =
    decoded_one _ _ _ _ _ c.loop-at.invariant c.loop-at-test.true _ _ c.requires.room c.in_ok-k.ensures

pub returns : goal.returns
returns c =
    decoded_all _ _ _ _ _ c.loop-at.invariant c.loop-at-test.false c.requires.room
