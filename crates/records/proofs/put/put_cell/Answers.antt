use Rattle.records.proofs.Refines.Puts.{cell-put}
use Rattle.records.proofs.put.put_cell.Goals as goal

pub returns : goal.returns
returns c =
    search cell-put
