use Rattle.classes.proofs.Refines.Trails.{record-none, record_one}
use borrow.Author.Rules.{rules}
use Rattle.classes.proofs.trail.record_join_unchecked.Goals as goal

pub returns-then-d-eq0 : goal.returns-then-d-eq0
returns-then-d-eq0 c =
    search (rules, record-none)

pub returns : goal.returns
returns c =
    record_one _ _ c.requires.sized _ _ _ c.requires.room c.if-d-eq0.false
