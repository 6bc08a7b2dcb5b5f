use Rattle.sides.proofs.Refines.Alike.{string-within, roots-closed}
use Rattle.sides.proofs.stripping.same_class_unchecked.Goals as goal

pub root_unchecked-x-requires : goal.root_unchecked-x-requires
root_unchecked-x-requires c =
    (string-within c.requires.fact_1 _ c.requires.fact_2.one, roots-closed c.requires.fact_1)

pub root_unchecked-y-requires : goal.root_unchecked-y-requires
root_unchecked-y-requires c =
    (string-within c.requires.fact_1 _ c.requires.fact_2.other, roots-closed c.requires.fact_1)
