use Rattle.records.proofs.Refines.IndexBuckets.{JoinedFrom}
use Rattle.records.specs.Index.{bucket_of}
use Rattle.records.specs.View.{text_at}
use Rattle.records.specs.Lists.{concat_map}
use Rattle.records.proofs.index.bucket_of_joined.Given as goal

abbrev pub invariant-loop-t : goal.invariant-loop-t
invariant-loop-t l = JoinedFrom l.terms l.chars l.list (bucket_of 1 (concat_map (text_at l.terms l.chars) l.list)) l.b l.t-index
