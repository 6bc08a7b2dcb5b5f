use Rattle.classes.proofs.Refines.AuditMarks.{audit-few, audit-first, audit_asks, trail-fits, audit_marks_lem, audit-last}
use Rattle.classes.proofs.trail.audit.Goals as goal

pub returns-then-not-trail_sizes : goal.returns-then-not-trail_sizes
returns-then-not-trail_sizes c =
    audit-few _ _ _ _ _ c.trail_sizes.ensures c.if-not-trail_sizes.true

pub returns-then-comes_first : goal.returns-then-comes_first
returns-then-comes_first c =
    audit-first _ _ _ _ _ c.trail_sizes.ensures c.if-not-trail_sizes.false _ c.audit-due.ensures _
    c.comes_first.ensures c.if-comes_first.true

pub marks_ok_unchecked-requires-clause-markable : goal.marks_ok_unchecked-requires-clause-markable
marks_ok_unchecked-requires-clause-markable c =
    audit_asks _ _ _ _ _ c.trail_sizes.ensures c.if-not-trail_sizes.false _ c.audit-due.ensures _
    c.comes_first.ensures c.if-comes_first.false

pub marks_ok_unchecked-requires-clause-sized : goal.marks_ok_unchecked-requires-clause-sized
marks_ok_unchecked-requires-clause-sized c =
    trail-fits _ _ _ _ _ c.trail_sizes.ensures c.if-not-trail_sizes.false _ c.audit-due.ensures _
    c.comes_first.ensures

pub returns-then-not-marks_ok_unchecked : goal.returns-then-not-marks_ok_unchecked
returns-then-not-marks_ok_unchecked c =
    audit_marks_lem _ _ _ _ _ c.trail_sizes.ensures c.if-not-trail_sizes.false _ c.audit-due.ensures _
    c.comes_first.ensures c.if-comes_first.false _ c.marks_ok_unchecked.ensures c.if-not-marks_ok_unchecked.true

pub returns : goal.returns
returns c =
    audit-last _ _ _ _ _ c.trail_sizes.ensures c.if-not-trail_sizes.false _ c.audit-due.ensures _
    c.comes_first.ensures c.if-comes_first.false _ c.marks_ok_unchecked.ensures c.if-not-marks_ok_unchecked.false
