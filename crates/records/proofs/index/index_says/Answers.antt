use Rattle.records.proofs.IndexSays.{says}
use Rattle.records.proofs.index.index_says.Goals as goal

pub returns : goal.returns
returns c =
    says
