use mathlib.Core.Path.{sym, ◌∙◌}
use mathlib.Core.List.{[]}
use Rattle.records.proofs.Lists.{and-stop, and-next}
use Rattle.records.proofs.Refines.NameLaws.{variable-within, text_anywhere, tables-room, tables-keep, passing-not}
use Rattle.records.proofs.unique.variable_ok.Goals as goal

pub text_ok-requires : goal.text_ok-requires
text_ok-requires c =
    let a = c.args in variable-within a.terms.now a.chars.now a.c a.t c.requires.1

pub returns-then-not-text_ok : goal.returns-then-not-text_ok
returns-then-not-text_ok c =
    let a = c.args in
    passing-not a.terms.now a.chars.now a.c _ _ _ _ _
    (and-stop _ _ (sym (c.text_ok.ensures ∙ text_anywhere a.terms.now [] [] [] a.chars.now a.c a.t) ∙ c.if-not-text_ok.true))

pub name_hash-m-requires : goal.name_hash-m-requires
name_hash-m-requires c =
    let a = c.args in
    (c.requires.0, c.requires.1, sym (c.text_ok.ensures ∙ text_anywhere a.terms.now [] [] [] a.chars.now a.c a.t) ∙ c.if-not-text_ok.false)

pub name_ok-requires : goal.name_ok-requires
name_ok-requires c =
    let a = c.args in (
      c.requires.0,
      record { variable = c.requires.1; fits = sym (c.text_ok.ensures ∙ text_anywhere a.terms.now [] [] [] a.chars.now a.c a.t) ∙ c.if-not-text_ok.false; hashed = c.name_hash-m.ensures },
      c.requires.2,
    )

pub bounds-hashes-t : goal.bounds-hashes-t
bounds-hashes-t c =
    let a = c.args in let i = tables-room a.terms.now a.chars.now a.c _ _ _ a.t c.requires.2 c.requires.1 in i.0

pub bounds-links-t : goal.bounds-links-t
bounds-links-t c =
    let a = c.args in let i = tables-room a.terms.now a.chars.now a.c _ _ _ a.t c.requires.2 c.requires.1 in i.1

pub returns : goal.returns
returns c =
    let a = c.args in
    let f = sym (c.text_ok.ensures ∙ text_anywhere a.terms.now [] [] [] a.chars.now a.c a.t) ∙ c.if-not-text_ok.false in
    record { passes = and-next _ _ _ f (sym (sym c.name_ok.ensures ∙ c.if-not-name_ok.false)); tables = λ z. tables-keep a.terms.now a.chars.now a.c _ _ _ a.t c.requires.2 c.name_hash-m.result (record { variable = c.requires.1; fits = f; hashed = c.name_hash-m.ensures }) }
