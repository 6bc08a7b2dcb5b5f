use Prim.Native.Nat.{ℕ, ◌%◌}
use mathlib.Core.Path.{ap}
use Rattle.records.proofs.Refines.IndexBuckets.{list-start, list-turn, list_done}
use Rattle.records.proofs.index.bucket_of.Goals as goal

pub loop-x-init : goal.loop-x-init
loop-x-init c =
    list-start _ _ _ (ap (λ (x : ℕ). x % 64) c.wide-b.ensures)

pub loop-x-preserved : goal.loop-x-preserved
loop-x-preserved c =
    search list-turn

pub returns : goal.returns
returns c =
    search list_done
