use Rattle.records.specs.Index.{bucket_of}
use Rattle.records.proofs.Refines.IndexBuckets.{AddingFrom}
use Rattle.records.proofs.index.bucket_of.Given as goal

abbrev pub invariant-loop-x : goal.invariant-loop-x
invariant-loop-x l = AddingFrom (bucket_of l.k l.l) l.l l.b l.x-index
