use mathlib.Core.Path.{◌∙◌, ap}
use Rattle.records.specs.Working.Hashes.{hash_from}
use Rattle.records.proofs.Refines.NameLaws.{name_ends, name_part}
use Rattle.records.proofs.unique.name_hash.Goals as goal

pub slice_bounds-text_hash-end : goal.slice_bounds-text_hash-end
slice_bounds-text_hash-end c =
    let a = c.args in
    let r = c.requires in
    name_ends a.terms.now a.chars.now a.c a.t r.1 r.2 _ _ (c.wide-p.ensures ∙ c.first.ensures) (c.wide-n.ensures ∙ c.second.ensures) r.0

pub returns : goal.returns
returns c =
    let a = c.args in
    let r = c.requires in
    c.text_hash.ensures
    ∙ ap (hash_from 1) (name_part a.terms.now a.chars.now a.c a.t r.1 r.2 _ _ (c.wide-p.ensures ∙ c.first.ensures) (c.wide-n.ensures ∙ c.second.ensures) r.0)
