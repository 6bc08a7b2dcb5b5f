use borrow.Author.Rules.{rules}
use Rattle.sides.specs.Wordeq.{same}
use Rattle.sides.proofs.stripping.same_unchecked.Goals as goal

pub returns-then-a-b : goal.returns-then-a-b
unfolding same
returns-then-a-b c = search rules

pub returns-then-both_constant : goal.returns-then-both_constant
unfolding same
returns-then-both_constant c = search rules

pub returns-else-both_constant : goal.returns-else-both_constant
unfolding same
returns-else-both_constant c = search rules
