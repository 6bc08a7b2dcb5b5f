use Rattle.classes.proofs.Refines.JoinWords.{edge-room, reroot_asked, class-asked, cut-leaves}
use Rattle.classes.proofs.links.cut_unchecked.Goals as goal

pub put_edge_unchecked-requires : goal.put_edge_unchecked-requires
put_edge_unchecked-requires c =
    edge-room _ _ _ _ _ c.requires

pub carry_unchecked-requires : goal.carry_unchecked-requires
carry_unchecked-requires c =
    reroot_asked _ _ _ _ _ c.requires _ c.put_edge_unchecked.ensures

pub put_class_parent_unchecked-requires : goal.put_class_parent_unchecked-requires
put_class_parent_unchecked-requires c =
    class-asked _ _ _ _ _ c.requires _ c.put_edge_unchecked.ensures _ c.carry_unchecked.ensures

pub returns : goal.returns
returns c =
    cut-leaves _ _ _ _ _ c.requires _ c.put_edge_unchecked.ensures _ c.carry_unchecked.ensures _ c.put_class_parent_unchecked.ensures
