use Rattle.records.proofs.Refines.IndexReads.{none-met, index-not, index_is}
use Rattle.records.proofs.Lists.{table-length}
use Rattle.records.specs.View.{records_in, term_at}
use Prim.Native.Nat.{suc}
use Rattle.records.proofs.index.index_ok.Goals as goal

pub terms_linked-requires-clause-none_met : goal.terms_linked-requires-clause-none_met
terms_linked-requires-clause-none_met c = none-met

pub returns-then-terms_linked : goal.returns-then-terms_linked
returns-then-terms_linked c =
    let a = c.args in
    index_is a.terms.now (records_in a.terms.now a.cells.now a.chars.now a.c) a.c.terms
    (table-length (λ i. term_at a.terms.now (suc i)) a.c.terms) _ _ c.terms_linked.ensures _ c.if-terms_linked.true c.chains_end.ensures

pub returns-else-terms_linked : goal.returns-else-terms_linked
returns-else-terms_linked c =
    let a = c.args in
    index-not a.terms.now (records_in a.terms.now a.cells.now a.chars.now a.c) a.c.terms
    (table-length (λ i. term_at a.terms.now (suc i)) a.c.terms) _ _ c.terms_linked.ensures c.if-terms_linked.false
