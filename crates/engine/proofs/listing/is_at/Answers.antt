use Rattle.engine.proofs.Refines.Listing.{stands_by}
use Rattle.engine.proofs.listing.is_at.Goals as goal

pub returns-then-place-n : goal.returns-then-place-n
returns-then-place-n c =
    stands_by _ _ _ _ _ _ c.if-place-n.true c.pair_is_unchecked.ensures
