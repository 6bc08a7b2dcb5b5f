use lib.ListN.{take}
use Rattle.records.specs.View.{lent}
use Rattle.wordeq.proofs.Flattened.{list-passes, list-says, list-flat}
use Rattle.wordeq.proofs.Refines.Flattening.{left-passes, right-passes, flat-after, flat-done}
use Rattle.normalize.proofs.FormReady.{ready_nested}
use native.Mathlib.Omega.{arith}
use Rattle.records.proofs.Public.{handed}
use Rattle.wordeq.proofs.resolving.flat_steps.Goals as goal

pub flatten_list_unchecked-n-requires-clause-fact_1 : goal.flatten_list_unchecked-n-requires-clause-fact_1
flatten_list_unchecked-n-requires-clause-fact_1 c =
    ready_nested c.requires.ready

pub returns-then-n-gt-LIST_LIMIT : goal.returns-then-n-gt-LIST_LIMIT
returns-then-n-gt-LIST_LIMIT c =
    left-passes _ _ c.args.lhs.now c.args.rhs.now c.args.guard
    (list-passes c.requires.ready c.args.lhs.now _ _ _ c.flatten_list_unchecked-n.ensures c.if-n-gt-LIST_LIMIT.true)

pub flatten_list_unchecked-k-requires-clause-fact_1 : goal.flatten_list_unchecked-k-requires-clause-fact_1
flatten_list_unchecked-k-requires-clause-fact_1 c =
    ready_nested c.requires.ready

pub returns-then-k-gt-LIST_LIMIT : goal.returns-then-k-gt-LIST_LIMIT
returns-then-k-gt-LIST_LIMIT c =
    right-passes _ _ c.args.lhs.now c.args.rhs.now c.args.guard _
    (list-says c.requires.ready c.args.lhs.now _ _ _ c.flatten_list_unchecked-n.ensures c.if-n-gt-LIST_LIMIT.false
    (let k = c.flatten_list_unchecked-n.auto.out in omega arith))
    (list-passes c.requires.ready c.args.rhs.now _ _ _ c.flatten_list_unchecked-k.ensures c.if-k-gt-LIST_LIMIT.true)

pub steps_unchecked-requires-clause-both_lists : goal.steps_unchecked-requires-clause-both_lists
steps_unchecked-requires-clause-both_lists c =
    record { left = list-flat c.requires.ready c.args.lhs.now _ _ _ c.flatten_list_unchecked-n.ensures c.if-n-gt-LIST_LIMIT.false (let k = c.flatten_list_unchecked-n.auto.out in omega arith) c.requires.both_lists.left; right = list-flat c.requires.ready c.args.rhs.now _ _ _ c.flatten_list_unchecked-k.ensures c.if-k-gt-LIST_LIMIT.false (let k = c.flatten_list_unchecked-k.auto.out in omega arith) c.requires.both_lists.right }

pub returns-in_err-o : goal.returns-in_err-o
returns-in_err-o c =
    rw (handed _ c.from_residual.ensures.1)
    (flat-after (lent c.args.terms.now c.args.cells.now c.args.chars.now c.args.reasons.now c.args.keys.now) c.args.c
    c.args.lhs.now c.args.rhs.now c.args.guard (take c.flatten_list_unchecked-n.result c.flatten_list_unchecked-n.new.out)
    (list-says c.requires.ready c.args.lhs.now _ _ _ c.flatten_list_unchecked-n.ensures c.if-n-gt-LIST_LIMIT.false (let k = c.flatten_list_unchecked-n.auto.out in omega arith))
    c.ranges.guard (take c.flatten_list_unchecked-k.result c.flatten_list_unchecked-k.new.out)
    (list-says c.requires.ready c.args.rhs.now _ _ _ c.flatten_list_unchecked-k.ensures c.if-k-gt-LIST_LIMIT.false (let k = c.flatten_list_unchecked-k.auto.out in omega arith)) c.in_err-o.ensures)

pub returns : goal.returns
returns c =
    flat-done (lent c.args.terms.now c.args.cells.now c.args.chars.now c.args.reasons.now c.args.keys.now) c.args.c
    c.args.lhs.now c.args.rhs.now c.args.guard (take c.flatten_list_unchecked-n.result c.flatten_list_unchecked-n.new.out)
    (list-says c.requires.ready c.args.lhs.now _ _ _ c.flatten_list_unchecked-n.ensures c.if-n-gt-LIST_LIMIT.false (let k = c.flatten_list_unchecked-n.auto.out in omega arith))
    c.ranges.guard (take c.flatten_list_unchecked-k.result c.flatten_list_unchecked-k.new.out)
    (list-says c.requires.ready c.args.rhs.now _ _ _ c.flatten_list_unchecked-k.ensures c.if-k-gt-LIST_LIMIT.false (let k = c.flatten_list_unchecked-k.auto.out in omega arith))
    _ c.in_ok-o.o c.in_ok-o.ensures _ c.soften.ensures
