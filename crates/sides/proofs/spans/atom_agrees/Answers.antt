use borrow.Author.Rules.{rules}
use Rattle.sides.specs.Working.Spans.{agrees}
use Rattle.sides.proofs.spans.atom_agrees.Goals as goal

pub returns-then-is_a : goal.returns-then-is_a
unfolding agrees
returns-then-is_a c = search rules

pub returns-else-is_a : goal.returns-else-is_a
unfolding agrees
returns-else-is_a c = search rules
