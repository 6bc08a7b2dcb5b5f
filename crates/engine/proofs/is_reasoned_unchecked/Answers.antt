use Rattle.engine.proofs.Refines.Starts.{own-ready, own-counts, own-refused}
use Rattle.records.specs.View.{lent}
use Rattle.engine.proofs.is_reasoned_unchecked.Goals as goal

pub explain_unchecked-requires : goal.explain_unchecked-requires
explain_unchecked-requires c =
    (own-ready _ _ 0 0 _ c.with_reasons-d.ensures c.requires.0, rw c.with_reasons-d.ensures c.requires.1)

pub returns-in-Ok : goal.returns-in-Ok
returns-in-Ok c =
    own-counts (lent c.args.terms.now c.args.cells.now c.args.chars.now c.args.reasons.now c.args.keys.now)
    c.args.c _ _ _ c.with_reasons-d.ensures _ _ c.explain_unchecked.ensures _ c.in-Ok.is

pub returns-in-Err : goal.returns-in-Err
returns-in-Err c =
    own-refused (lent c.args.terms.now c.args.cells.now c.args.chars.now c.args.reasons.now c.args.keys.now)
    c.args.c _ _ _ c.with_reasons-d.ensures _ _ c.explain_unchecked.ensures _ c.in-Err.is
