use mathlib.Core.Path.{◌∙◌}
use Rattle.records.proofs.Refines.NameLaws.{named_other, named_test, name_ends, name_part}
use Rattle.records.proofs.unique.is_named.Goals as goal

pub returns-then-hashes-u : goal.returns-then-hashes-u
returns-then-hashes-u c =
    let a = c.args in let r = c.requires in named_other a.terms.now a.chars.now a.c a.m a.t r.2 _ a.u r.3 c.if-hashes-u.true

pub slice_bounds-has_text-end : goal.slice_bounds-has_text-end
slice_bounds-has_text-end c =
    let a = c.args in
    let r = c.requires in
    name_ends a.terms.now a.chars.now a.c a.t r.2.variable r.2.fits _ _ (c.wide-p.ensures ∙ c.first.ensures)
    (c.wide-n.ensures ∙ c.second.ensures) r.0

pub returns : goal.returns
returns c =
    let a = c.args in
    let r = c.requires in
    named_test a.terms.now a.chars.now a.c a.m a.t r.2 _ a.u r.3 _ _ c.has_text.ensures
    (name_part a.terms.now a.chars.now a.c a.t r.2.variable r.2.fits c.wide-p.result c.wide-n.result
    (c.wide-p.ensures ∙ c.first.ensures) (c.wide-n.ensures ∙ c.second.ensures) r.0)
