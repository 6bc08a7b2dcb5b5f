use Rattle.records.proofs.Public.{handed}
use Rattle.wordeq.proofs.Refines.Propagate.{side_fixed, assigned-done, assigned-stop}
use Rattle.records.specs.View.{lent}
use Rattle.wordeq.proofs.propagate.assigns_unchecked.Goals as goal

pub side_word_unchecked-requires-clause-side_value : goal.side_word_unchecked-requires-clause-side_value
side_word_unchecked-requires-clause-side_value c =
    side_fixed (lent c.args.terms.now c.args.cells.now c.args.chars.now c.args.reasons.now c.args.keys.now)
    c.args.c c.args.v c.args.side.now c.requires.side_value

pub returns-in_err-t : goal.returns-in_err-t
returns-in_err-t c =
    rw (handed _ c.from_residual.ensures.1) (assigned-stop c.args.v c.args.side.now c.requires.side_value c.in_err-t.ensures)

pub returns : goal.returns
returns c =
    assigned-done c.args.v c.args.side.now c.requires.side_value c.in_ok-t.ensures
