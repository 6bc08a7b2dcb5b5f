use Rattle.records.proofs.Lists.{within-is, upto_more, upto-stop, upto-done}
use Rattle.records.specs.Rules.{edge_rule, congruences_rule}
use Rattle.records.specs.View.{term_at, chained}
use Prim.Native.Nat.{suc}
use native.Mathlib.Omega.{arith}
use Rattle.records.proofs.classes.edges_ok.Goals as goal

pub edge_ok-requires : goal.edge_ok-requires
edge_ok-requires c =
    record {
      congruable = c.requires.congruable;
      here = within-is _ _ (omega arith) (omega arith);
      heights = c.loop-t.invariant.1;
    }

pub returns-then-not-edge_ok : goal.returns-then-not-edge_ok
unfolding congruences_rule
returns-then-not-edge_ok c =
    let s = c.args in
    upto-stop (λ j. term_at s.terms.now (suc j)) (edge_rule (chained s.terms.now s.cells.now s.c)) s.c.terms _ _ c.edge_ok.ensures.is c.if-not-edge_ok.true (omega arith) (omega arith)

pub loop-t-preserved : goal.loop-t-preserved
loop-t-preserved c = (upto_more _ _ _ c.loop-t.invariant.0 c.edge_ok.ensures.is c.if-not-edge_ok.false, c.edge_ok.ensures.kept)

pub returns : goal.returns
unfolding congruences_rule
returns c =
    let s = c.args in
    upto-done (λ j. term_at s.terms.now (suc j)) (edge_rule (chained s.terms.now s.cells.now s.c)) s.c.terms _ c.loop-t.invariant.0 (omega arith)

pub returns-else-not-edge_ok : goal.returns-else-not-edge_ok
unfolding congruences_rule
returns-else-not-edge_ok c =
    let s = c.args in
    upto-done (λ j. term_at s.terms.now (suc j)) (edge_rule (chained s.terms.now s.cells.now s.c)) s.c.terms _ (upto_more _ _ _ c.loop-t.invariant.0 c.edge_ok.ensures.is c.if-not-edge_ok.false) (omega arith)
