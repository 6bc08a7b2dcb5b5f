use Rattle.records.proofs.Refines.Adds.{key_added, key_refused}
use Rattle.records.proofs.put.add_key_unchecked.Goals as goal

pub returns-then-pair_fits : goal.returns-then-pair_fits
returns-then-pair_fits c =
    search key_added

pub returns : goal.returns
returns c =
    search key_refused
