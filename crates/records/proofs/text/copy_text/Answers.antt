use Rattle.records.proofs.Refines.JoinedTexts.{moved-one, moved_all}
use Rattle.records.proofs.Refines.Texts.{copied_none}
use Rattle.records.proofs.text.copy_text.Goals as goal

pub loop-i-init : goal.loop-i-init
loop-i-init c =
    copied_none _ _ _

pub loop-i-preserved : goal.loop-i-preserved
loop-i-preserved c =
    moved-one _ _ _ _ _ _ c.loop-i.invariant c.loop-i-test.true c.requires.below c.requires.room

pub returns : goal.returns
returns c =
    moved_all _ _ _ _ _ _ c.loop-i.invariant c.loop-i-test.false
