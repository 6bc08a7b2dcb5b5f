use mathlib.Core.Path.{◌∙◌, sym}
use borrow.Author.Tests.{eq-eqb}
use Rattle.records.specs.View.{lent, store_of}
use Rattle.records.proofs.Views.{kind_at}
use Rattle.records.proofs.KindWords.{kind_is, kind_none}
use Rattle.records.proofs.Refines.TermLaws.{term-constant, term-variable, term-concat, term-length, term-equation, term-other, variable-of, concat_of_lem, length_of_term, equation_of_lem}
use Rattle.records.proofs.Refines.NameLaws.{text_anywhere, passing-not, passing-other}
use mathlib.Core.List.{[]}
use native.Mathlib.Omega.{arith}
use Rattle.records.proofs.rules.term_ok.Goals as goal

pub variable_ok-requires : goal.variable_ok-requires
variable_ok-requires c =
    let r = c.requires in (r.1, eq-eqb _ 2 (sym (kind_at c.args.terms.now _ _ _ r.0 c.kind.ensures) ∙ (kind_is c.in-Ok-Variable.ensures c.in-Ok-Variable.field-0-is)), r.2)

pub returns-in-Ok-Constant : goal.returns-in-Ok-Constant
returns-in-Ok-Constant c =
    let a = c.args in
    let k = kind_at a.terms.now _ _ _ c.requires.0 c.kind.ensures in
    passing-other a.terms.now a.chars.now a.c _ _ _ a.t _ _ _ c.requires.2 k (λ q. let i = kind_is c.in-Ok-Constant.ensures c.in-Ok-Constant.field-0-is in omega arith)
    (term-constant _ _ _ _ k (kind_is c.in-Ok-Constant.ensures c.in-Ok-Constant.field-0-is) (c.text_ok.ensures ∙ text_anywhere a.terms.now [] [] a.cells.now a.chars.now a.c a.t))

pub returns-in-Ok-Variable : goal.returns-in-Ok-Variable
returns-in-Ok-Variable c =
    let a = c.args in
    record { passes = term-variable _ _ _ _ (kind_at a.terms.now _ _ _ c.requires.0 c.kind.ensures) (kind_is c.in-Ok-Variable.ensures c.in-Ok-Variable.field-0-is) (c.variable_ok.ensures.passes ∙ variable-of a.terms.now a.cells.now a.chars.now a.c a.t); tables = c.variable_ok.ensures.tables }

pub returns-in-Ok-Concatenation : goal.returns-in-Ok-Concatenation
returns-in-Ok-Concatenation c =
    let a = c.args in
    let k = kind_at a.terms.now _ _ _ c.requires.0 c.kind.ensures in
    passing-other a.terms.now a.chars.now a.c _ _ _ a.t _ _ _ c.requires.2 k (λ q. let i = kind_is c.in-Ok-Concatenation.ensures c.in-Ok-Concatenation.field-0-is in omega arith)
    (term-concat _ _ _ _ k (kind_is c.in-Ok-Concatenation.ensures c.in-Ok-Concatenation.field-0-is) (c.concat_ok.ensures ∙ concat_of_lem a.terms.now a.cells.now a.chars.now a.c a.t))

pub returns-in-Ok-Length : goal.returns-in-Ok-Length
returns-in-Ok-Length c =
    let a = c.args in
    let k = kind_at a.terms.now _ _ _ c.requires.0 c.kind.ensures in
    passing-other a.terms.now a.chars.now a.c _ _ _ a.t _ _ _ c.requires.2 k (λ q. let i = kind_is c.in-Ok-Length.ensures c.in-Ok-Length.field-0-is in omega arith)
    (term-length _ _ _ _ k (kind_is c.in-Ok-Length.ensures c.in-Ok-Length.field-0-is) (c.length_ok.ensures ∙ length_of_term a.terms.now a.cells.now a.chars.now a.c a.t))

pub returns-in-Ok-Equation : goal.returns-in-Ok-Equation
returns-in-Ok-Equation c =
    let a = c.args in
    let k = kind_at a.terms.now _ _ _ c.requires.0 c.kind.ensures in
    passing-other a.terms.now a.chars.now a.c _ _ _ a.t _ _ _ c.requires.2 k (λ q. let i = kind_is c.in-Ok-Equation.ensures c.in-Ok-Equation.field-0-is in omega arith)
    (term-equation _ _ _ _ k (kind_is c.in-Ok-Equation.ensures c.in-Ok-Equation.field-0-is) (c.equation_ok.ensures ∙ equation_of_lem a.terms.now a.cells.now a.chars.now a.c a.t))

pub returns-in-Err : goal.returns-in-Err
returns-in-Err c =
    let a = c.args in
    passing-not a.terms.now a.chars.now a.c _ _ _ a.t _
    (term-other (store_of (lent a.terms.now a.cells.now a.chars.now [] []) a.c) a.t _
    (kind_at a.terms.now _ _ _ c.requires.0 c.kind.ensures) (kind_none 1 c.in-Err.ensures.1 (omega arith) (omega arith)) (kind_none 2 c.in-Err.ensures.1 (omega arith) (omega arith))
    (kind_none 3 c.in-Err.ensures.1 (omega arith) (omega arith)) (kind_none 4 c.in-Err.ensures.1 (omega arith) (omega arith)) (kind_none 5 c.in-Err.ensures.1 (omega arith) (omega arith)))
