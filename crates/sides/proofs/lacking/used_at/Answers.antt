use borrow.Author.Rules.{rules}
use Rattle.sides.specs.Working.Lacking.{used_at}
use Rattle.sides.proofs.lacking.used_at.Goals as goal

pub returns-then-table-i-ne0 : goal.returns-then-table-i-ne0
unfolding used_at
returns-then-table-i-ne0 c = search rules

pub returns-else-table-i-ne0 : goal.returns-else-table-i-ne0
unfolding used_at
returns-else-table-i-ne0 c = search rules
