use Prim.Native.Nat.{ℕ, ◌%◌}
use mathlib.Core.Path.{ap}
use Rattle.records.proofs.Refines.IndexBuckets.{sides-added}
use Rattle.records.proofs.index.bucket_of_sides.Goals as goal

pub returns : goal.returns
returns c =
    sides-added _ _ _ _ _ _ (ap (λ (z : ℕ). z % 64) c.wide.ensures) c.added.ensures c.added-2.ensures
