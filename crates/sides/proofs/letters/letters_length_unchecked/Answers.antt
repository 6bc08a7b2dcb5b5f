use Rattle.sides.proofs.Refines.SideLetters.{letters_none, counted-one}
use Rattle.records.proofs.Loops.{summing_all}
use native.Mathlib.Omega.{arith}
use Rattle.sides.proofs.letters.letters_length_unchecked.Goals as goal

pub overflow_add-total : goal.overflow_add-total
overflow_add-total c =
    let z = counted-one _ _ _ _ _ _ c.requires.0 c.loop-a.invariant c.loop-a-test.true c.letter_count-total.ensures in
    let y = z.small in let x = z.within in let v = c.requires.1 in omega arith

pub loop-a-preserved : goal.loop-a-preserved
loop-a-preserved c =
    counted-one _ _ _ _ _ _ c.requires.0 c.loop-a.invariant c.loop-a-test.true c.letter_count-total.ensures

pub returns : goal.returns
returns c =
    summing_all _ _ _ _ _ c.loop-a.invariant (letters_none _) c.loop-a-test.false
