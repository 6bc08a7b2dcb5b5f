use Rattle.capi.proofs.Words.{state-read}
use borrow.Author.Rules.{rules}
use Rattle.capi.proofs.telling.state_of.Goals as goal

pub returns : goal.returns
returns c =
    search (state-read, rules)
