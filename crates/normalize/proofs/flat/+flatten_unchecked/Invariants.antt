use Rattle.normalize.proofs.Refines.Flats.{Left}
use Rattle.normalize.specs.Working.Flat.{bare}
use Rattle.records.specs.Store.{chain}
use lib.ListN.{length}
use Rattle.normalize.proofs.flat.+flatten_unchecked.Given as goal

abbrev pub decreases-flatten_unchecked : goal.decreases-flatten_unchecked
decreases-flatten_unchecked l = l.t

abbrev pub invariant-loop-v : goal.invariant-loop-v
invariant-loop-v l = Left l.terms l.n l.cells l.m l.initial.out l.out l.count l.t l.at l.k

abbrev pub decreases-loop-v : goal.decreases-loop-v
decreases-loop-v l = length (chain (bare l.terms l.n l.cells l.m) l.at)
