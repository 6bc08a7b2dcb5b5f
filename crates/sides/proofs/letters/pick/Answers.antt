use borrow.Author.Rules.{rules}
use Rattle.sides.specs.Working.Sides.{picked}
use Rattle.sides.proofs.letters.pick.Goals as goal

pub returns-in-1 : goal.returns-in-1
unfolding picked
returns-in-1 c = search rules

pub returns-in-2 : goal.returns-in-2
unfolding picked
returns-in-2 c = search rules

pub returns-in_default : goal.returns-in_default
unfolding picked
returns-in_default c = search rules
