use Rattle.records.proofs.Public.{handed}
use Rattle.sides.proofs.Refines.Stripping.{strip-refused, strip-parts}
use Rattle.sides.proofs.stripping.strip_by.Goals as goal

pub returns-in_err-counts : goal.returns-in_err-counts
returns-in_err-counts c =
    rw (handed _ c.from_residual.ensures.1)
    (strip-refused c.args.terms.now c.args.cells.now c.args.chars.now c.args.keys.now c.args.lhs.now
    c.args.rhs.now _ _ _ _ c.requires.finds _ c.in_err-counts.ensures)

pub returns : goal.returns
returns c =
    strip-parts c.args.terms.now c.args.cells.now c.args.chars.now c.args.keys.now c.args.lhs.now
    c.args.rhs.now _ _ _ _ c.requires.finds _ c.in_ok-counts.ensures _ c.matches_need-needed.ensures
