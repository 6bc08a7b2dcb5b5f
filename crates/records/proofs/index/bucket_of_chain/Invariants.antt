use lib.ListN.{length}
use Rattle.records.specs.Lists.{firsts}
use Rattle.records.specs.Store.{chain_in}
use Rattle.records.specs.View.{cells_view}
use Rattle.records.specs.Index.{bucket_of}
use Rattle.records.proofs.Refines.IndexBuckets.{Adding}
use Rattle.records.proofs.index.bucket_of_chain.Given as goal

abbrev pub invariant-loop-b : goal.invariant-loop-b
invariant-loop-b l = Adding (bucket_of 3 (firsts (chain_in (cells_view l.cells l.n) l.f))) l.b (firsts (chain_in (cells_view l.cells l.n) l.at))

abbrev pub decreases-loop-b : goal.decreases-loop-b
decreases-loop-b l = length (chain_in (cells_view l.cells l.n) l.at)
