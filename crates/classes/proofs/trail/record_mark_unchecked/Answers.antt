use Rattle.classes.proofs.Refines.Trails.{record_mark}
use borrow.Author.Rules.{rules}
use Rattle.classes.proofs.trail.record_mark_unchecked.Goals as goal

pub returns : goal.returns
returns c =
    search (rules, record_mark)
