use Rattle.classes.proofs.Refines.Calling.{one-asked, other-asked, join-same, top-asked, record-asked, link-asked, join-two}
use Rattle.classes.proofs.join_unchecked.Goals as goal

pub root_unchecked-under-requires : goal.root_unchecked-under-requires
root_unchecked-under-requires c =
    one-asked c.requires.ready_marks c.args.a c.args.b c.args.kind c.args.number c.requires.c_value

pub root_unchecked-over-requires : goal.root_unchecked-over-requires
root_unchecked-over-requires c =
    other-asked c.requires.ready_marks c.args.a c.args.b c.args.kind c.args.number c.requires.c_value

pub returns-then-under-over : goal.returns-then-under-over
returns-then-under-over c =
    join-same c.requires.ready_marks c.args.a c.args.b c.args.kind c.args.number c.requires.c_value
    c.root_unchecked-under.ensures c.root_unchecked-over.ensures c.if-under-over.true

pub top_unchecked-old-requires : goal.top_unchecked-old-requires
top_unchecked-old-requires c =
    top-asked c.requires.ready_marks c.args.a c.args.b c.args.kind c.args.number c.requires.c_value
    c.root_unchecked-under.ensures c.root_unchecked-over.ensures c.if-under-over.false

pub record_join_unchecked-e-requires-clause-room : goal.record_join_unchecked-e-requires-clause-room
record_join_unchecked-e-requires-clause-room c =
    (record-asked c.requires.ready_marks c.args.a c.args.b c.args.kind c.args.number c.requires.c_value
    c.root_unchecked-under.ensures c.root_unchecked-over.ensures c.if-under-over.false).1

pub link_unchecked-requires : goal.link_unchecked-requires
link_unchecked-requires c =
    link-asked c.requires.ready_marks c.args.a c.args.b c.args.kind c.args.number c.requires.c_value
    c.root_unchecked-under.ensures c.root_unchecked-over.ensures c.if-under-over.false

pub returns : goal.returns
returns c =
    join-two c.requires.ready_marks c.args.a c.args.b c.args.kind c.args.number c.requires.c_value
    c.root_unchecked-under.ensures c.root_unchecked-over.ensures c.if-under-over.false c.top_unchecked-old.ensures
    c.record_join_unchecked-e.ensures c.link_unchecked.ensures
