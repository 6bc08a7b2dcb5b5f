use Rattle.records.proofs.Refines.IndexBuckets.{text-within, constant-bucket, variable-bucket, concat-bucket, length-bucket, other-bucket}
use Rattle.records.proofs.Lists.{within-is}
use Rattle.records.proofs.KindWords.{kind_is, kind_none}
use mathlib.Core.Path.{◌∙◌}
use native.Mathlib.Omega.{arith}
use Rattle.records.proofs.index.bucket_of_term.Goals as goal

pub bucket_of_text-requires : goal.bucket_of_text-requires
bucket_of_text-requires c =
    let a = c.args in
    text-within a.terms.now a.cells.now a.chars.now a.c a.t c.requires.here _ _ _ c.kind-k.ensures (c.wide.ensures ∙ c.first-x.ensures)
    (c.wide-in-Ok-Constant.ensures ∙ c.second-y.ensures) c.requires.bucketed (within-is 2 _ (let i = kind_is c.in-Ok-Constant.ensures c.in-Ok-Constant.field-0-is in omega arith) (let i = kind_is c.in-Ok-Constant.ensures c.in-Ok-Constant.field-0-is in omega arith)) c.requires.chars

pub bucket_of_text-requires-in-Ok-Variable : goal.bucket_of_text-requires-in-Ok-Variable
bucket_of_text-requires-in-Ok-Variable c =
    let a = c.args in
    text-within a.terms.now a.cells.now a.chars.now a.c a.t c.requires.here _ _ _ c.kind-k.ensures (c.wide-in-Ok-Variable.ensures ∙ c.first-x.ensures)
    (c.wide-in-Ok-Variable-2.ensures ∙ c.second-y.ensures) c.requires.bucketed (within-is 2 _ (let i = kind_is c.in-Ok-Variable.ensures c.in-Ok-Variable.field-0-is in omega arith) (let i = kind_is c.in-Ok-Variable.ensures c.in-Ok-Variable.field-0-is in omega arith)) c.requires.chars

pub returns-in-Ok-Constant : goal.returns-in-Ok-Constant
returns-in-Ok-Constant c =
    let a = c.args in
    constant-bucket a.terms.now a.cells.now a.chars.now a.c a.t c.requires.here _ _ _ c.kind-k.ensures
    (c.wide.ensures ∙ c.first-x.ensures) (c.wide-in-Ok-Constant.ensures ∙ c.second-y.ensures) c.requires.bucketed _ (kind_is c.in-Ok-Constant.ensures c.in-Ok-Constant.field-0-is)
    (rw (kind_is c.in-Ok-Constant.ensures c.in-Ok-Constant.field-0-is) at c.bucket_of_text.ensures)

pub returns-in-Ok-Variable : goal.returns-in-Ok-Variable
returns-in-Ok-Variable c =
    let a = c.args in
    variable-bucket a.terms.now a.cells.now a.chars.now a.c a.t c.requires.here _ _ _ c.kind-k.ensures
    (c.wide-in-Ok-Variable.ensures ∙ c.first-x.ensures) (c.wide-in-Ok-Variable-2.ensures ∙ c.second-y.ensures) c.requires.bucketed _ (kind_is c.in-Ok-Variable.ensures c.in-Ok-Variable.field-0-is)
    (rw (kind_is c.in-Ok-Variable.ensures c.in-Ok-Variable.field-0-is) at c.bucket_of_text-in-Ok-Variable.ensures)

pub returns-in-Ok-Concatenation : goal.returns-in-Ok-Concatenation
returns-in-Ok-Concatenation c =
    let a = c.args in
    concat-bucket a.terms.now a.cells.now a.chars.now a.c a.t c.requires.here _ _ _ c.kind-k.ensures c.first-x.ensures
    c.second-y.ensures _ (kind_is c.in-Ok-Concatenation.ensures c.in-Ok-Concatenation.field-0-is) c.bucket_of_chain.ensures

pub returns-in-Ok-Length : goal.returns-in-Ok-Length
returns-in-Ok-Length c =
    let a = c.args in
    length-bucket a.terms.now a.cells.now a.chars.now a.c a.t c.requires.here _ _ _ c.kind-k.ensures c.first-x.ensures
    c.second-y.ensures _ (kind_is c.in-Ok-Length.ensures c.in-Ok-Length.field-0-is) (rw (kind_is c.in-Ok-Length.ensures c.in-Ok-Length.field-0-is) at c.bucket_of_sides.ensures)

pub returns-in-Ok-Equation : goal.returns-in-Ok-Equation
returns-in-Ok-Equation c =
    let a = c.args in
    let i = kind_is c.in-Ok-Equation.ensures c.in-Ok-Equation.field-0-is in
    other-bucket a.terms.now a.cells.now a.chars.now a.c a.t c.requires.here _ _ _ c.kind-k.ensures c.first-x.ensures
    c.second-y.ensures _ (λ q. omega arith) (λ q. omega arith) (λ q. omega arith) (λ q. omega arith) c.bucket_of_sides-in-Ok-Equation.ensures

pub returns-in-Err : goal.returns-in-Err
returns-in-Err c =
    let a = c.args in
    let n = c.in-Err.ensures.1 in
    other-bucket a.terms.now a.cells.now a.chars.now a.c a.t c.requires.here _ _ _ c.kind-k.ensures c.first-x.ensures
    c.second-y.ensures _ (kind_none 1 n (omega arith) (omega arith)) (kind_none 2 n (omega arith) (omega arith)) (kind_none 3 n (omega arith) (omega arith)) (kind_none 4 n (omega arith) (omega arith))
    c.bucket_of_sides-in-Err.ensures
