use Rattle.records.specs.View.{read_in}
use Rattle.sides.proofs.Refines.Stripping.{unequal-lengths, equal-counted}
use borrow.Author.Tests.{ne_eqb}
use Rattle.sides.proofs.equal_lists.nf_equal_unchecked.Goals as goal

pub returns-then-lhs-rhs : goal.returns-then-lhs-rhs
returns-then-lhs-rhs c =
    equal-counted (read_in c.args.terms.now c.args.chars.now c.args.c) c.args.lhs.now c.args.rhs.now _ c.count_same.ensures c.if-lhs-rhs.true

pub returns-else-lhs-rhs : goal.returns-else-lhs-rhs
returns-else-lhs-rhs c =
    rw (ne_eqb _ _ c.if-lhs-rhs.false) (unequal-lengths (read_in c.args.terms.now c.args.chars.now c.args.c) c.args.lhs.now c.args.rhs.now c.if-lhs-rhs.false)
