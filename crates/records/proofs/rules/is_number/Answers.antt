use Rattle.records.specs.Rules.{is_number}
use borrow.Author.Rules.{rules}
use Rattle.records.proofs.rules.is_number.Goals as goal

pub returns : goal.returns
unfolding is_number
returns c =
    search rules
