use Rattle.engine.proofs.Refines.Listing.{Lacks}
use Rattle.engine.proofs.listing.place_of.Given as goal

abbrev pub invariant-loop-i : goal.invariant-loop-i
invariant-loop-i l = Lacks l.pairs l.i l.a l.b
