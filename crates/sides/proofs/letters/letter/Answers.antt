use Rattle.sides.proofs.Refines.SideWalk.{place-limit}
use Rattle.sides.proofs.Refines.SideWalk.{letter-is}
use native.Mathlib.Omega.{arith}
use Rattle.sides.proofs.letters.letter.Goals as goal

pub overflow_add-p : goal.overflow_add-p
overflow_add-p c =
    let z = place-limit _ _ _ _ _ c.requires.0 c.requires.1 c.requires.2 in omega arith

pub returns : goal.returns
returns c =
    letter-is _ _ _ _ _ _ _ _ c.requires.0 c.requires.1 c.requires.2 c.first.ensures c.wide-p.ensures c.word.ensures
