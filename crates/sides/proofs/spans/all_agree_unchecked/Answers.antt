use Rattle.records.specs.View.{read_in}
use Rattle.records.proofs.Lists.{failed, passed}
use Rattle.records.proofs.Loops.{all-stop, all-turn, all_done}
use Rattle.sides.proofs.Refines.Fitting.{pair_at_lem}
use Rattle.sides.proofs.spans.all_agree_unchecked.Goals as goal

pub atom_agrees-requires-clause-pair : goal.atom_agrees-requires-clause-pair
atom_agrees-requires-clause-pair c =
    pair_at_lem (read_in c.args.terms.now c.args.chars.now c.args.c) c.args.l.now c.requires.l_value c.args.v
    c.requires.v_value _ c.loop-a-test.true

pub returns-then-not-atom_agrees : goal.returns-then-not-atom_agrees
returns-then-not-atom_agrees c =
    all-stop _ _ _ c.loop-a.invariant c.loop-a-test.true (failed _ _ c.atom_agrees.ensures c.if-not-atom_agrees.true-raw)

pub loop-a-preserved : goal.loop-a-preserved
loop-a-preserved c =
    all-turn _ _ _ c.loop-a.invariant c.loop-a-test.true (passed _ _ c.atom_agrees.ensures c.if-not-atom_agrees.false-raw)

pub returns : goal.returns
returns c =
    all_done _ _ _ c.loop-a.invariant c.loop-a-test.false
