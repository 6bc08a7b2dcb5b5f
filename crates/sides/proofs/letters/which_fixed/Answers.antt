use borrow.Author.Rules.{rules}
use Rattle.sides.specs.Working.Sides.{which_fixed}
use Rattle.sides.proofs.letters.which_fixed.Goals as goal

pub returns-then-is_fixed : goal.returns-then-is_fixed
unfolding which_fixed
returns-then-is_fixed c = search rules

pub returns-then-is_fixed-2 : goal.returns-then-is_fixed-2
unfolding which_fixed
returns-then-is_fixed-2 c = search rules

pub returns-else-is_fixed-2 : goal.returns-else-is_fixed-2
unfolding which_fixed
returns-else-is_fixed-2 c = search rules
