use Rattle.classes.proofs.Refines.MarkTables.{marks-not, marks-none, copy_markable, marks-last}
use Rattle.classes.proofs.trail.marks_ok_unchecked.Goals as goal

pub returns-then-not-counts_ok : goal.returns-then-not-counts_ok
returns-then-not-counts_ok c =
    marks-not _ _ _ _ _ _ c.counts_ok.ensures
    c.if-not-counts_ok.true

pub returns-then-d-eq0 : goal.returns-then-d-eq0
returns-then-d-eq0 c =
    marks-none _ _ _ _ _ _
    c.counts_ok.ensures c.if-not-counts_ok.false c.if-d-eq0.true

pub tables_ok_unchecked-requires-clause-markable : goal.tables_ok_unchecked-requires-clause-markable
tables_ok_unchecked-requires-clause-markable c =
    copy_markable _ _ _ _ _ _
    c.counts_ok.ensures c.if-not-counts_ok.false c.copy_terms_unchecked.ensures c.requires.markable

pub returns : goal.returns
returns c =
    marks-last _ _ _ _ _ _
    c.counts_ok.ensures c.if-not-counts_ok.false c.copy_terms_unchecked.ensures _ c.tables_ok_unchecked.ensures
