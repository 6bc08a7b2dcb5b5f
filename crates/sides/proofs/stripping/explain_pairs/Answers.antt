use Rattle.sides.proofs.Refines.Pairs.{pairing_none, pairing_end, pairing_pair, pairing_refused, pairing_turn}
use Rattle.records.proofs.Public.{handed}
use Rattle.sides.proofs.stripping.explain_pairs.Goals as goal

pub loop-i-init : goal.loop-i-init
loop-i-init c =
    pairing_none c.args.terms.now c.args.cells.now c.args.chars.now c.args.keys.now c.args.lhs.now
    c.args.rhs.now c.args.tail c.requires.ready

pub explain_pair-requires-clause-pair : goal.explain_pair-requires-clause-pair
explain_pair-requires-clause-pair c =
    pairing_pair c.args.terms.now c.args.cells.now c.args.chars.now c.args.keys.now c.args.lhs.now
    c.args.rhs.now c.args.tail c.loop-i.invariant c.requires.one_length c.requires.lhs_strings c.requires.rhs_strings
    c.loop-i-test.true c.atom_unchecked-a.ensures c.atom_unchecked-b.ensures

pub returns-in_err-d : goal.returns-in_err-d
returns-in_err-d c =
    rw (handed _ c.from_residual.ensures.1)
    (pairing_refused c.args.terms.now c.args.cells.now c.args.chars.now c.args.keys.now c.args.lhs.now
    c.args.rhs.now c.args.tail c.loop-i.invariant c.requires.one_length c.requires.lhs_strings c.requires.rhs_strings
    c.loop-i-test.true c.atom_unchecked-a.ensures c.atom_unchecked-b.ensures _ _ c.in_err-d.ensures)

pub loop-i-preserved : goal.loop-i-preserved
loop-i-preserved c =
    pairing_turn c.args.terms.now c.args.cells.now c.args.chars.now c.args.keys.now c.args.lhs.now
    c.args.rhs.now c.args.tail c.loop-i.invariant c.requires.one_length c.requires.lhs_strings c.requires.rhs_strings
    c.loop-i-test.true c.atom_unchecked-a.ensures c.atom_unchecked-b.ensures _ _ c.in_ok-d.ensures

pub returns : goal.returns
returns c =
    pairing_end c.args.terms.now c.args.cells.now c.args.chars.now c.args.keys.now c.args.lhs.now
    c.args.rhs.now c.args.tail c.loop-i.invariant c.loop-i-test.false
