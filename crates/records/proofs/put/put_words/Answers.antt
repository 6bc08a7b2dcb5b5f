use Rattle.records.proofs.Refines.Puts.{words-put}
use Rattle.records.proofs.put.put_words.Goals as goal

pub returns : goal.returns
returns c =
    search words-put
