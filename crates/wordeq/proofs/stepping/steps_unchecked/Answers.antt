use mir.Facts.{to_z-of_z}
use Rattle.wordeq.proofs.Refines.Steps.{parts_lined, parts_apart, steps-refused, steps-bare, steps_after}
use Rattle.sides.proofs.Trying.{lined}
use Rattle.records.proofs.Public.{handed}
use Rattle.wordeq.proofs.stepping.steps_unchecked.Goals as goal

pub returns-then-is_bare : goal.returns-then-is_bare
returns-then-is_bare c =
    steps-bare c.args.guard c.args.lhs.now c.args.rhs.now c.in_ok-parts.ensures
    c.is_bare.result c.is_bare.ensures c.if-is_bare.true c.args.list.now

pub after_unchecked-requires-clause-ready : goal.after_unchecked-requires-clause-ready
after_unchecked-requires-clause-ready c =
    let x = lined c.requires.ready c.requires.both_lists in
    let y = parts_lined c.args.guard c.args.lhs.now c.args.rhs.now c.in_ok-parts.ensures x in
    y.ready

pub after_unchecked-requires-clause-both_lists : goal.after_unchecked-requires-clause-both_lists
after_unchecked-requires-clause-both_lists c =
    let x = lined c.requires.ready c.requires.both_lists in
    let y = parts_lined c.args.guard c.args.lhs.now c.args.rhs.now c.in_ok-parts.ensures x in
    y.lists

pub after_unchecked-requires-clause-heads_apart : goal.after_unchecked-requires-clause-heads_apart
after_unchecked-requires-clause-heads_apart c =
    let x = lined c.requires.ready c.requires.both_lists in
    parts_apart c.args.guard c.args.lhs.now c.args.rhs.now c.in_ok-parts.ensures x

pub returns : goal.returns
returns c =
    steps_after c.args.guard c.args.lhs.now c.args.rhs.now c.in_ok-parts.ensures
    (lined c.requires.ready c.requires.both_lists) c.is_bare.result c.is_bare.ensures c.if-is_bare.false (to_z-of_z c.ranges.guard)
    c.after_unchecked.result c.after_unchecked.new.list c.after_unchecked.ensures

pub returns-in_err-parts : goal.returns-in_err-parts
returns-in_err-parts c =
    rw (handed _ c.from_residual.ensures.1) (steps-refused c.args.guard c.args.lhs.now c.args.rhs.now c.in_err-parts.ensures)
