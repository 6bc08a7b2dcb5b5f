use Rattle.records.proofs.Public.{handed}
use Rattle.engine.proofs.Refines.Plainly.{explainable_on, explained_anew}
use Rattle.engine.proofs.explain_pair.Goals as goal

pub returns-in_err-count : goal.returns-in_err-count
returns-in_err-count c =
    rw (handed _ c.from_residual.ensures.1) (c.in_err-count.ensures.done _ _)

pub returns-in-Some : goal.returns-in-Some
returns-in-Some c =
    (rw c.in-Some.is at c.in_ok-count.ensures).done _ _

pub explain_tabled-requires-2 : goal.explain_tabled-requires-2
explain_tabled-requires-2 c =
    (c.requires.0, explainable_on _ _ _ _ _ _ _ _ _ c.explain_plain.auto.reasons c.requires.1)

pub returns : goal.returns
returns c =
    explained_anew _ _ _ _ _ _ _ _ _ c.explain_plain.auto.reasons c.explain_plain.ensures.kept _ _
    c.explain_tabled-2.ensures
