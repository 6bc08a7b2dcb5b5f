use Rattle.history.proofs.Follow.{every_run}
use Rattle.history.proofs.every_run.Goals as goal

pub returns : goal.returns
returns c =
    every_run
