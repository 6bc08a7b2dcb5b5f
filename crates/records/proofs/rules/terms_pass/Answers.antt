use Prim.Native.Nat.{suc}
use Rattle.records.specs.View.{records_in, term_at}
use Rattle.records.specs.Rules.{term_rule}
use Rattle.records.proofs.Lists.{within-is, upto_none, upto_more, upto-stop, upto-done}
use Rattle.records.proofs.Refines.NameLaws.{tables_start}
use native.Mathlib.Omega.{arith}
use Rattle.records.proofs.rules.terms_pass.Goals as goal

pub loop-t-init : goal.loop-t-init
loop-t-init c = let a = c.args in (upto_none _, tables_start a.terms.now a.chars.now a.c _ _ c.requires.2 c.requires.3)

pub term_ok-requires : goal.term_ok-requires
term_ok-requires c = (within-is _ _ (omega arith) (omega arith), c.requires.1, c.loop-t.invariant.1)

pub returns-then-not-term_ok : goal.returns-then-not-term_ok
returns-then-not-term_ok c =
    let a = c.args in
    upto-stop (λ j. term_at a.terms.now (suc j)) (term_rule (records_in a.terms.now a.cells.now a.chars.now a.c)) a.c.terms _ _ c.term_ok.ensures.passes c.if-not-term_ok.true (omega arith) (omega arith)

pub returns : goal.returns
returns c =
    let a = c.args in
    upto-done (λ j. term_at a.terms.now (suc j)) (term_rule (records_in a.terms.now a.cells.now a.chars.now a.c)) a.c.terms _ c.loop-t.invariant.0 (omega arith)

pub returns-else-not-term_ok : goal.returns-else-not-term_ok
returns-else-not-term_ok c =
    let a = c.args in
    upto-done (λ j. term_at a.terms.now (suc j)) (term_rule (records_in a.terms.now a.cells.now a.chars.now a.c)) a.c.terms _ (upto_more _ _ _ c.loop-t.invariant.0 c.term_ok.ensures.passes c.if-not-term_ok.false) (omega arith)
