use Rattle.records.proofs.Naming.{name_taken, name_spent}
use Rattle.records.proofs.names.take_name_unchecked.Goals as goal

pub returns-then-x-ge-NAME_LIMIT : goal.returns-then-x-ge-NAME_LIMIT
returns-then-x-ge-NAME_LIMIT c =
    search name_spent

pub returns : goal.returns
returns c =
    search name_taken
