use Rattle.records.proofs.Refines.HeightLaws.{kept-known, kept-past, kept_new}
use Rattle.std.proofs.lemmas.Grind.{common_steps}
use native.Mathlib.Omega.{arith}
use Rattle.records.proofs.heights.kept_height.Goals as goal

pub returns-then-k-ne0 : goal.returns-then-k-ne0
returns-then-k-ne0 c =
    kept-known _ _ _ _ c.requires.heights _ (grind (arith, common_steps)) c.if-k-ne0.true

pub pair_height-h-requires : goal.pair_height-h-requires
pair_height-h-requires c =
    (c.requires.pathed, rw c.value-a.ensures c.requires.term_pair.one, rw c.other-b.ensures c.requires.term_pair.other)

pub overflow_add-heights : goal.overflow_add-heights
overflow_add-heights c =
    omega (arith, c.pair_height-h.ensures.low)

pub returns-then-i-heights : goal.returns-then-i-heights
returns-then-i-heights c =
    kept_new _ _ _ _ c.requires.heights _ _ _ c.value-a.ensures c.other-b.ensures c.pair_height-h.ensures c.if-i-heights.true

pub returns-else-i-heights : goal.returns-else-i-heights
returns-else-i-heights c =
    kept-past _ _ _ _ c.requires.heights _ _ _ c.value-a.ensures c.other-b.ensures c.pair_height-h.ensures
