use Rattle.engine.proofs.Refines.Listing.{lacks-none, lacks-turn, place_found}
use Rattle.engine.proofs.listing.place_of.Goals as goal

pub loop-i-init : goal.loop-i-init
loop-i-init c =
    lacks-none _ 0 _ _

pub returns-then-pair_is_unchecked : goal.returns-then-pair_is_unchecked
returns-then-pair_is_unchecked c =
    place_found _ _ _ _ _ _ c.pair_is_unchecked.ensures c.if-pair_is_unchecked.true c.loop-i-test.true

pub loop-i-preserved : goal.loop-i-preserved
loop-i-preserved c =
    lacks-turn _ 0 _ _ _ _ c.pair_is_unchecked.ensures c.if-pair_is_unchecked.false c.loop-i.invariant
