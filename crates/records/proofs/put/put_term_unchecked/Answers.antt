use Rattle.records.proofs.Refines.Puts.{term-put}
use Rattle.records.proofs.put.put_term_unchecked.Goals as goal

pub returns : goal.returns
returns c =
    search term-put
