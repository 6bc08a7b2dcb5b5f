use Rattle.records.proofs.Refines.HeightLaws.{height-none, height-both}
use Rattle.records.proofs.heights.pair_height.Goals as goal

pub returns-then-x-eq0 : goal.returns-then-x-eq0
returns-then-x-eq0 c = let p = c.requires in height-none _ _ _ _ _ p.0 p.1 p.2 c.nearest_unchecked-x.ensures c.if-x-eq0.true

pub returns-else-x-eq0 : goal.returns-else-x-eq0
returns-else-x-eq0 c =
    let p = c.requires in
    height-both _ _ _ _ _ p.0 p.1 p.2 c.nearest_unchecked-x.ensures c.if-x-eq0.false _ _ _ c.height_up.ensures c.height_up-else-x-eq0.ensures c.max.ensures
