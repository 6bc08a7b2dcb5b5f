use Rattle.records.specs.Rules.{is_char}
use borrow.Author.Rules.{rules}
use Rattle.records.proofs.rules.is_char.Goals as goal

pub returns : goal.returns
unfolding is_char
returns c =
    search rules
