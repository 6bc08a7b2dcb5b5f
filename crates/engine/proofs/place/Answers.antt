use Rattle.engine.proofs.Refines.Bits.{place_of_sorted}
use Rattle.engine.proofs.place.Goals as goal

pub returns : goal.returns
returns c =
    place_of_sorted _ _ _ _ c.max-high.ensures c.min-low.ensures
