use Rattle.capi.proofs.Words.{unroomy, roomy-is}
use borrow.Author.Rules.{rules}
use Rattle.capi.proofs.telling.is_roomy.Goals as goal

pub returns-then-n-state : goal.returns-then-n-state
returns-then-n-state c =
    search (roomy-is, rules)

pub returns-else-n-state : goal.returns-else-n-state
returns-else-n-state c =
    search (unroomy, rules)
