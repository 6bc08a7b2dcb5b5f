use Rattle.records.specs.View.{lent, read_in}
use Rattle.sides.proofs.Refines.Pairs.{pair_at_lem}
use Rattle.sides.proofs.Refines.Stripping.{needing_end, needing_stop, needing_turn, equal-within, equal-same}
use Rattle.sides.proofs.stripping.pairs_need.Goals as goal

pub atom_unchecked-v-requires : goal.atom_unchecked-v-requires
atom_unchecked-v-requires c =
    equal-within (lent c.args.terms.now c.args.cells.now c.args.chars.now c.args.reasons.now c.args.keys.now)
    c.args.c (read_in c.args.terms.now c.args.chars.now c.args.c) c.args.lhs.now c.args.rhs.now
    c.args.tail c.requires.equal c.loop-i-test.true

pub needs_reason-requires : goal.needs_reason-requires
needs_reason-requires c =
    let by-readIn = read_in c.args.terms.now c.args.chars.now c.args.c in
    let by-lent = lent c.args.terms.now c.args.cells.now c.args.chars.now c.args.reasons.now c.args.keys.now in record {
      ready = c.requires.ready;
      pair = pair_at_lem by-readIn c.args.tail c.args.lhs.now c.args.rhs.now c.requires.lhs_strings c.requires.rhs_strings
          c.loop-i-test.true
          (equal-within by-lent c.args.c by-readIn c.args.lhs.now c.args.rhs.now c.args.tail c.requires.equal
          c.loop-i-test.true)
          c.atom_unchecked-u.ensures c.atom_unchecked-v.ensures;
      alike = equal-same by-lent c.args.c by-readIn c.args.lhs.now c.args.rhs.now c.args.tail c.requires.equal
          c.loop-i-test.true c.atom_unchecked-u.ensures c.atom_unchecked-v.ensures c.requires.lhs_strings c.requires.rhs_strings;
    }

pub returns-then-needs_reason : goal.returns-then-needs_reason
returns-then-needs_reason c =
    needing_stop (lent c.args.terms.now c.args.cells.now c.args.chars.now c.args.reasons.now c.args.keys.now)
    c.args.c (read_in c.args.terms.now c.args.chars.now c.args.c) c.args.lhs.now c.args.rhs.now
    c.args.tail c.requires.equal c.loop-i-test.true c.atom_unchecked-u.ensures c.atom_unchecked-v.ensures
    c.loop-i.invariant _ c.needs_reason.ensures c.if-needs_reason.true

pub loop-i-preserved : goal.loop-i-preserved
loop-i-preserved c =
    needing_turn (lent c.args.terms.now c.args.cells.now c.args.chars.now c.args.reasons.now c.args.keys.now)
    c.args.c (read_in c.args.terms.now c.args.chars.now c.args.c) c.args.lhs.now c.args.rhs.now
    c.args.tail c.requires.equal c.loop-i-test.true c.atom_unchecked-u.ensures
    c.atom_unchecked-v.ensures c.loop-i.invariant _ c.needs_reason.ensures c.if-needs_reason.false

pub returns : goal.returns
returns c =
    needing_end (lent c.args.terms.now c.args.cells.now c.args.chars.now c.args.reasons.now c.args.keys.now)
    c.args.c (read_in c.args.terms.now c.args.chars.now c.args.c) c.args.lhs.now c.args.rhs.now
    c.args.tail c.requires.equal c.loop-i.invariant c.loop-i-test.false
