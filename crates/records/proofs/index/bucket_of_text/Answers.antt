use Rattle.records.proofs.Refines.IndexBuckets.{text-bucket}
use Rattle.records.proofs.index.bucket_of_text.Goals as goal

pub returns : goal.returns
returns c =
    let a = c.args in text-bucket a.chars.now a.k a.p a.n _ c.requires c.bucket_of.ensures
