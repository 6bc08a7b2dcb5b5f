use Rattle.records.proofs.Refines.JoinedTexts.{joined-none, joined-all}
use Rattle.records.proofs.text.put_joined_unchecked.Goals as goal

pub loop-i-init : goal.loop-i-init
loop-i-init c =
    joined-none _ _ _ _

pub returns : goal.returns
returns c =
    joined-all _ _ _ _ _ _ _ c.loop-i.invariant c.requires.texts_within c.loop-i-test.false
