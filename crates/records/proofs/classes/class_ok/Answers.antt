use mathlib.Core.Bool.{true, false}
use Rattle.records.proofs.Refines.ClassLaws.{seen_up, seen-rooted, root-here, top-here}
use Rattle.records.proofs.classes.class_ok.Goals as goal

pub root_unchecked-r-requires : goal.root_unchecked-r-requires
root_unchecked-r-requires c =
    (c.requires.0, seen_up c.args.terms.now c.args.c c.requires.1 false)

pub top_unchecked-q-requires : goal.top_unchecked-q-requires
top_unchecked-q-requires c =
    (c.requires.0, seen_up c.args.terms.now c.args.c c.requires.1 true)

pub root_unchecked-p-requires : goal.root_unchecked-p-requires
root_unchecked-p-requires c =
    let h = seen-rooted c.args.terms.now c.args.c c.requires.1 _ _ _ c.requires.0 c.root_unchecked-r.ensures c.top_unchecked-q.ensures in
    (top-here c.args.terms.now c.args.c _ _ _ h, h.roots)

pub top_unchecked-u-requires : goal.top_unchecked-u-requires
top_unchecked-u-requires c =
    let h = seen-rooted c.args.terms.now c.args.c c.requires.1 _ _ _ c.requires.0 c.root_unchecked-r.ensures c.top_unchecked-q.ensures in
    (root-here c.args.terms.now c.args.c _ _ _ h, h.tops)

pub rooted_ok-requires-clause-rooted : goal.rooted_ok-requires-clause-rooted
rooted_ok-requires-clause-rooted c = seen-rooted c.args.terms.now c.args.c c.requires.1 _ _ _ c.requires.0 c.root_unchecked-r.ensures c.top_unchecked-q.ensures
