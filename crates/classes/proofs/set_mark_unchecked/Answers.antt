use Rattle.classes.proofs.Refines.Calling.{mark_done}
use Rattle.classes.proofs.set_mark_unchecked.Goals as goal

pub returns : goal.returns
returns c =
    mark_done c.requires.ready_marks c.requires.marks_lt_mark_limit c.record_mark_unchecked.ensures
