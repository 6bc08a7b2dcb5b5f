use Rattle.records.specs.View.{read_in}
use Rattle.sides.proofs.Refines.Pairs.{pair_at_lem}
use Rattle.sides.proofs.Refines.Stripping.{count_all, count_stop, count_turn, below_left, below_right}
use Rattle.sides.proofs.stripping.count_same.Goals as goal

pub same_unchecked-requires-clause-fact_2 : goal.same_unchecked-requires-clause-fact_2
same_unchecked-requires-clause-fact_2 c =
    pair_at_lem (read_in c.args.terms.now c.args.chars.now c.args.c) c.args.tail c.args.lhs.now
    c.args.rhs.now c.requires.lhs_strings c.requires.rhs_strings (below_left _ _ _ _ c.min-n.ensures c.loop-i-test.true)
    (below_right _ _ _ _ c.min-n.ensures c.loop-i-test.true) c.atom_unchecked-x.ensures c.atom_unchecked-y.ensures

pub returns-then-not-same_unchecked : goal.returns-then-not-same_unchecked
returns-then-not-same_unchecked c =
    count_stop (read_in c.args.terms.now c.args.chars.now c.args.c) c.args.lhs.now c.args.rhs.now
    c.args.tail _ c.min-n.ensures c.loop-i.invariant c.loop-i-test.true c.atom_unchecked-x.ensures
    c.atom_unchecked-y.ensures _ c.same_unchecked.ensures c.if-not-same_unchecked.true-raw

pub loop-i-preserved : goal.loop-i-preserved
loop-i-preserved c =
    count_turn (read_in c.args.terms.now c.args.chars.now c.args.c) c.args.lhs.now c.args.rhs.now
    c.args.tail _ c.min-n.ensures c.loop-i.invariant c.loop-i-test.true c.atom_unchecked-x.ensures
    c.atom_unchecked-y.ensures _ c.same_unchecked.ensures c.if-not-same_unchecked.false-raw

pub returns : goal.returns
returns c =
    count_all (read_in c.args.terms.now c.args.chars.now c.args.c) c.args.lhs.now c.args.rhs.now
    c.args.tail _ c.min-n.ensures c.loop-i.invariant c.loop-i-test.false
