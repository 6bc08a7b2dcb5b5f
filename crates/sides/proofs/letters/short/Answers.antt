use borrow.Author.Rules.{rules}
use Rattle.sides.specs.Wordeq.{short}
use Rattle.sides.proofs.letters.short.Goals as goal

pub returns-then-is_fixed : goal.returns-then-is_fixed
unfolding short
returns-then-is_fixed c = search rules

pub returns-else-is_fixed : goal.returns-else-is_fixed
unfolding short
returns-else-is_fixed c = search rules
