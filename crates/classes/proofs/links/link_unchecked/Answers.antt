use Rattle.classes.proofs.Refines.JoinWords.{under-room, carry_asked, link-leaves}
use Rattle.classes.proofs.links.link_unchecked.Goals as goal

pub put_class_parent_unchecked-requires : goal.put_class_parent_unchecked-requires
put_class_parent_unchecked-requires c =
    under-room _ _ _ _ _ _ c.requires

pub carry_unchecked-requires : goal.carry_unchecked-requires
carry_unchecked-requires c =
    carry_asked _ _ _ _ _ _ c.requires _ c.put_class_parent_unchecked.ensures

pub returns : goal.returns
returns c =
    link-leaves _ _ _ _ _ _ c.requires _ c.put_class_parent_unchecked.ensures _ _ _ c.carry_unchecked.ensures
