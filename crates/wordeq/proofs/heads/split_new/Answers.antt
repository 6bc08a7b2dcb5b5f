use Rattle.records.proofs.Public.{handed}
use mathlib.Core.Path.{refl}
use Rattle.records.proofs.Kept.{key_rule_lem}
use Rattle.wordeq.proofs.Refines.Heads.{opposite_kept, new-pair, new-below, new-small, new-done, new-stop, after_key}
use native.Mathlib.Omega.{arith}
use Rattle.wordeq.proofs.heads.split_new.Goals as goal

pub add_key_unchecked-requires-clause-b_value : goal.add_key_unchecked-requires-clause-b_value
add_key_unchecked-requires-clause-b_value c =
    key_rule_lem _ _ _ c.requires.head_pair.left c.requires.head_pair.right c.requires.head_pair.apart

pub returns-in_err-d : goal.returns-in_err-d
returns-in_err-d c =
    rw (handed _ c.from_residual.ensures.1) (new-stop c.args.guard c.args.a c.args.b c.in_err-d.ensures)

pub put_atoms-requires-clause-ready : goal.put_atoms-requires-clause-ready
put_atoms-requires-clause-ready c =
    c.in_ok-d.ensures.ready _ _ refl

pub put_atoms-requires-clause-head_pair : goal.put_atoms-requires-clause-head_pair
put_atoms-requires-clause-head_pair c =
    new-pair c.args.guard c.args.a c.args.b c.in_ok-d.d c.in_ok-d.ensures c.requires.ready c.requires.head_pair

pub returns-in_err-n : goal.returns-in_err-n
returns-in_err-n c =
    rw (handed _ c.from_residual-in_err-n.ensures.1) (after_key c.args.guard c.args.a c.args.b c.in_ok-d.d c.in_ok-d.ensures c.in_err-n.ensures)

pub overflow_sub-more : goal.overflow_sub-more
overflow_sub-more c =
    new-below c.args.guard c.args.a c.args.b c.in_ok-d.d c.in_ok-d.ensures c.in_ok-n.e c.in_ok-n.ensures

pub overflow_cast-more : goal.overflow_cast-more
overflow_cast-more c =
    let ready = c.in_ok-d.ensures.ready _ _ refl in
    let pair = new-pair c.args.guard c.args.a c.args.b c.in_ok-d.d c.in_ok-d.ensures c.requires.ready c.requires.head_pair in
    let small = new-small c.args.guard c.args.a c.args.b c.in_ok-d.d c.in_ok-d.ensures c.in_ok-n.e c.in_ok-n.ensures ready pair in
    record { fits = omega arith }

pub returns : goal.returns
returns c =
    new-done c.args.guard c.args.a c.args.b c.in_ok-d.d c.in_ok-d.ensures c.in_ok-n.e c.in_ok-n.ensures
    (opposite_kept c.args.guard c.requires.guard_value c.ranges.guard _ c.negated-opposite.ensures) refl
