use Rattle.engine.proofs.Refines.Starts.{explainable_of, explain_came, explain_refused}
use Rattle.records.proofs.Public.{handed}
use Rattle.engine.proofs.explain_unchecked.Goals as goal

pub explain_pair-requires : goal.explain_pair-requires
explain_pair-requires c =
    (c.requires.0.sized.term_limited, explainable_of _ _ _ _ c.requires.0 c.requires.1)

pub returns-in_err-count : goal.returns-in_err-count
returns-in_err-count c =
    rw (handed _ c.from_residual.ensures.1)
    (explain_refused _ _ _ _ c.requires.0 c.requires.1 _ c.explain_pair.auto.reasons _ c.in_err-count.ensures)

pub returns : goal.returns
returns c =
    explain_came _ _ _ _ c.requires.0 c.requires.1 _ c.explain_pair.auto.reasons _ c.in_ok-count.ensures _ c.with_reasons.ensures
