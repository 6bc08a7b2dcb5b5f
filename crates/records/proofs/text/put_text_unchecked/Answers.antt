use Rattle.records.proofs.Refines.Texts.{copied_none, copied-one, copied_all}
use mathlib.Core.Path.{refl}
use native.Mathlib.Omega.{arith}
use Rattle.records.proofs.text.put_text_unchecked.Goals as goal

pub loop-i-init : goal.loop-i-init
loop-i-init c =
    copied_none _ _ _

pub bounds-chars-at : goal.bounds-chars-at
bounds-chars-at c =
    omega (arith, c.loop-i.invariant.long)

pub loop-i-preserved : goal.loop-i-preserved
loop-i-preserved c =
    copied-one _ _ _ _ _ _ c.loop-i.invariant c.loop-i-test.true c.requires refl

pub returns : goal.returns
returns c =
    copied_all _ _ _ _ _ c.loop-i.invariant c.loop-i-test.false
