use Rattle.sides.proofs.Refines.Stripping.{asked-heads, asked-tails, heads_through, tails_through, part-strings}
use Rattle.records.proofs.Lists.{all_take}
use Rattle.sides.proofs.stripping.matches_need.Goals as goal

pub pairs_need-requires-clause-lhs_strings : goal.pairs_need-requires-clause-lhs_strings
pairs_need-requires-clause-lhs_strings c =
    all_take _ c.args.rest.from c.args.lhs.now c.requires.lhs_strings

pub pairs_need-requires-clause-rhs_strings : goal.pairs_need-requires-clause-rhs_strings
pairs_need-requires-clause-rhs_strings c =
    all_take _ c.args.rest.from c.args.rhs.now c.requires.rhs_strings

pub pairs_need-requires-clause-equal : goal.pairs_need-requires-clause-equal
pairs_need-requires-clause-equal c =
    (heads_through c.args.lhs.now c.args.rhs.now c.args.rest c.requires.finds).equal

pub returns-then-pairs_need : goal.returns-then-pairs_need
returns-then-pairs_need c =
    asked-heads _ _ _ _ _ _ _ _ _ c.requires.finds _ c.pairs_need.ensures c.if-pairs_need.true

pub pairs_need-requires-2-clause-lhs_strings : goal.pairs_need-requires-2-clause-lhs_strings
pairs_need-requires-2-clause-lhs_strings c =
    part-strings _ c.args.lhs.now c.args.rest.lhs c.requires.lhs_strings

pub pairs_need-requires-2-clause-rhs_strings : goal.pairs_need-requires-2-clause-rhs_strings
pairs_need-requires-2-clause-rhs_strings c =
    part-strings _ c.args.rhs.now c.args.rest.rhs c.requires.rhs_strings

pub pairs_need-requires-2-clause-equal : goal.pairs_need-requires-2-clause-equal
pairs_need-requires-2-clause-equal c =
    (tails_through c.args.lhs.now c.args.rhs.now c.args.rest c.requires.finds).equal

pub returns : goal.returns
returns c =
    asked-tails _ _ _ _ _ _ _ _ _ c.requires.finds _ c.pairs_need.ensures c.if-pairs_need.false _ c.pairs_need-2.ensures
