use Rattle.records.proofs.Refines.JoinedTexts.{matched-one, matched-stop, matched-all, within-at}
use native.Mathlib.Omega.{arith}
use Rattle.records.proofs.text.joined_is_unchecked.Goals as goal

pub spans_agree-requires : goal.spans_agree-requires
spans_agree-requires c =
    record {
      counted = omega arith;
      within = within-at c.args.terms.now _ _ _ _ _ c.requires.within c.loop-t-test.true c.first-from.ensures c.second-n.ensures;
    }

pub returns-then-not-spans_agree : goal.returns-then-not-spans_agree
returns-then-not-spans_agree c =
    matched-stop _ _ _ _ _ _ c.loop-t.invariant c.loop-t-test.true _ _ c.first-from.ensures c.second-n.ensures _
    c.spans_agree.ensures c.if-not-spans_agree.true

pub loop-t-preserved : goal.loop-t-preserved
loop-t-preserved c =
    matched-one _ _ _ _ _ _ c.loop-t.invariant c.loop-t-test.true _ _ c.first-from.ensures c.second-n.ensures _
    c.spans_agree.ensures c.if-not-spans_agree.false (omega arith)

pub returns : goal.returns
returns c =
    matched-all _ _ _ _ _ _ c.loop-t.invariant c.loop-t-test.false
