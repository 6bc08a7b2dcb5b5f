use Rattle.records.proofs.Lists.{any-zero, any-turn, any-stop}
use Rattle.records.proofs.put.has_pair.Goals as goal

pub loop-i-init : goal.loop-i-init
loop-i-init c =
    any-zero _ _

pub returns-then-pair_is_unchecked : goal.returns-then-pair_is_unchecked
returns-then-pair_is_unchecked c =
    search any-stop

pub loop-i-preserved : goal.loop-i-preserved
loop-i-preserved c =
    search any-turn
