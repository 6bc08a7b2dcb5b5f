use mathlib.Core.Bool.{true, false}
use mathlib.Core.Path.{sym, ◌∙◌}
use Rattle.records.proofs.Refines.ClassLaws.{seen_up, seen-rooted, root-here, top-here}
use Rattle.records.proofs.ClimbEnds.{term_place_lem, tested_more}
use Rattle.records.proofs.roots.class_kept_ok.Goals as goal

pub kept_root_unchecked-r-requires-clause-closed : goal.kept_root_unchecked-r-requires-clause-closed
kept_root_unchecked-r-requires-clause-closed c = seen_up c.args.terms.now c.args.c c.requires.parents false

pub kept_top_unchecked-q-requires-clause-closed : goal.kept_top_unchecked-q-requires-clause-closed
kept_top_unchecked-q-requires-clause-closed c = seen_up c.args.terms.now c.args.c c.requires.parents true

pub kept_root_unchecked-p-requires-clause-t_value : goal.kept_root_unchecked-p-requires-clause-t_value
kept_root_unchecked-p-requires-clause-t_value c = let a = c.args in top-here a.terms.now a.c _ _ _ (seen-rooted a.terms.now a.c c.requires.parents _ _ _ c.requires.here c.kept_root_unchecked-r.ensures c.kept_top_unchecked-q.ensures)

pub kept_root_unchecked-p-requires-clause-closed : goal.kept_root_unchecked-p-requires-clause-closed
kept_root_unchecked-p-requires-clause-closed c = seen_up c.args.terms.now c.args.c c.requires.parents false

pub kept_top_unchecked-u-requires-clause-here : goal.kept_top_unchecked-u-requires-clause-here
kept_top_unchecked-u-requires-clause-here c = let a = c.args in root-here a.terms.now a.c _ _ _ (seen-rooted a.terms.now a.c c.requires.parents _ _ _ c.requires.here c.kept_root_unchecked-r.ensures c.kept_top_unchecked-q.ensures)

pub kept_top_unchecked-u-requires-clause-closed : goal.kept_top_unchecked-u-requires-clause-closed
kept_top_unchecked-u-requires-clause-closed c = seen_up c.args.terms.now c.args.c c.requires.parents true

pub rooted_ok-requires-clause-rooted : goal.rooted_ok-requires-clause-rooted
rooted_ok-requires-clause-rooted c = let a = c.args in seen-rooted a.terms.now a.c c.requires.parents _ _ _ c.requires.here c.kept_root_unchecked-r.ensures c.kept_top_unchecked-q.ensures

pub keep_end-requires : goal.keep_end-requires
keep_end-requires c =
    let a = c.args in
    (term_place_lem _ _ c.requires.limited c.requires.here, term_place_lem _ _ c.requires.limited (top-here a.terms.now a.c _ _ _ (seen-rooted a.terms.now a.c c.requires.parents _ _ _ c.requires.here c.kept_root_unchecked-r.ensures c.kept_top_unchecked-q.ensures)))

pub keep_end-requires-2 : goal.keep_end-requires-2
keep_end-requires-2 c =
    let a = c.args in
    (term_place_lem _ _ c.requires.limited c.requires.here, term_place_lem _ _ c.requires.limited (root-here a.terms.now a.c _ _ _ (seen-rooted a.terms.now a.c c.requires.parents _ _ _ c.requires.here c.kept_root_unchecked-r.ensures c.kept_top_unchecked-q.ensures)))

pub returns : goal.returns
returns c =
    let a = c.args in
    tested_more a.terms.now a.c _ _ _ (seen-rooted a.terms.now a.c c.requires.parents _ _ _ c.requires.here c.kept_root_unchecked-r.ensures c.kept_top_unchecked-q.ensures) (sym c.rooted_ok.ensures ∙ c.if-not-rooted_ok.false) _ _ _ _ c.requires.limited c.requires.kept c.keep_end.ensures c.keep_end-2.ensures
