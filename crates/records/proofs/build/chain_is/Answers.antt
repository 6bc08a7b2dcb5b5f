use Rattle.records.proofs.Refines.Builds.{walked_none, walk_ends, walk-differs, walk-on, walk_over}
use Rattle.records.proofs.build.chain_is.Goals.{then-not-is_within-via-then-not-is_within, then-not-is_within-via-else-not-is_within+then-value-x}
use Rattle.records.proofs.build.chain_is.Goals as goal

pub loop-x-init : goal.loop-x-init
loop-x-init c =
    walked_none _ _ _ _

pub returns-then-not-is_within : goal.returns-then-not-is_within
returns-then-not-is_within c =
    elim c.then-not-is_within.branch [
      | then-not-is_within-via-then-not-is_within w ↦ search walk_ends
      | then-not-is_within-via-else-not-is_within+then-value-x w ↦ search walk-differs
    ]

pub loop-x-preserved : goal.loop-x-preserved
loop-x-preserved c =
    search walk-on

pub returns : goal.returns
returns c =
    search walk_over
