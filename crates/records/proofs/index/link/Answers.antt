use Rattle.records.proofs.Refines.IndexWalks.{reached-room}
use borrow.Author.Rules.{rules}
use Rattle.records.proofs.index.link.Goals as goal

pub offset_bounds-terms-place : goal.offset_bounds-terms-place
offset_bounds-terms-place c =
    let h = reached-room c.requires.bucket c.requires.room c.end_of-place.ensures in search (rules, h)

pub bounds-terms-place : goal.bounds-terms-place
bounds-terms-place c =
    let h = reached-room c.requires.bucket c.requires.room c.end_of-place.ensures in search (rules, h)
