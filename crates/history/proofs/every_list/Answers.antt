use Rattle.history.proofs.Every.{every_list}
use Rattle.history.proofs.every_list.Goals as goal

pub returns : goal.returns
returns c =
    every_list
