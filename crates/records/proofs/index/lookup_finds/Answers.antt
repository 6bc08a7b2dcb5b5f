use Rattle.records.proofs.IndexFinds.{finds}
use Rattle.records.proofs.index.lookup_finds.Goals as goal

pub returns : goal.returns
returns c =
    finds
