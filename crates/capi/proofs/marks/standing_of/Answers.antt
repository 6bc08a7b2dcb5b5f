use Rattle.capi.proofs.Standings.{standing-read}
use borrow.Author.Rules.{rules}
use Rattle.capi.proofs.marks.standing_of.Goals as goal

pub returns : goal.returns
returns c =
    search (standing-read, rules)
