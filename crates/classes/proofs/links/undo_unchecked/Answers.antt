use Rattle.classes.proofs.Refines.JoinWords.{undo-not, undo-asked, undo-done}
use Rattle.classes.proofs.links.undo_unchecked.Goals as goal

pub returns-then-not-is_trace : goal.returns-then-not-is_trace
returns-then-not-is_trace c =
    undo-not _ _ _ _ _ _ c.is_trace.ensures c.if-not-is_trace.true c.requires

pub cut_unchecked-requires : goal.cut_unchecked-requires
cut_unchecked-requires c =
    undo-asked _ _ _ _ _ _ c.is_trace.ensures c.if-not-is_trace.false c.requires

pub returns : goal.returns
returns c =
    undo-done _ _ _ _ _ _ c.is_trace.ensures c.if-not-is_trace.false c.requires _ c.cut_unchecked.ensures
