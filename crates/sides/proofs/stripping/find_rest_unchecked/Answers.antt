use native.Mathlib.Omega.{arith}
use borrow.Author.Rules.{rules}
use Rattle.records.specs.View.{read_in}
use Rattle.sides.proofs.Refines.Stripping.{heads-least, tails-least, found, part-strings}
use Rattle.sides.proofs.stripping.find_rest_unchecked.Goals as goal

pub offset_bounds-lhs-from : goal.offset_bounds-lhs-from
offset_bounds-lhs-from c =
    let p = (heads-least c.args.lhs.now c.args.rhs.now (read_in c.args.terms.now c.args.chars.now c.args.c) _ c.count_same-from.ensures).0 in search rules

pub slice_bounds-l-count : goal.slice_bounds-l-count
slice_bounds-l-count c =
    let p = (heads-least c.args.lhs.now c.args.rhs.now (read_in c.args.terms.now c.args.chars.now c.args.c) _ c.count_same-from.ensures).0 in omega arith

pub slice_bounds-l-start : goal.slice_bounds-l-start
slice_bounds-l-start c =
    let p = (heads-least c.args.lhs.now c.args.rhs.now (read_in c.args.terms.now c.args.chars.now c.args.c) _ c.count_same-from.ensures).0 in omega arith

pub offset_bounds-rhs-from : goal.offset_bounds-rhs-from
offset_bounds-rhs-from c =
    let p = (heads-least c.args.lhs.now c.args.rhs.now (read_in c.args.terms.now c.args.chars.now c.args.c) _ c.count_same-from.ensures).1 in search rules

pub slice_bounds-r-count : goal.slice_bounds-r-count
slice_bounds-r-count c =
    let p = (heads-least c.args.lhs.now c.args.rhs.now (read_in c.args.terms.now c.args.chars.now c.args.c) _ c.count_same-from.ensures).1 in omega arith

pub slice_bounds-r-start : goal.slice_bounds-r-start
slice_bounds-r-start c =
    let p = (heads-least c.args.lhs.now c.args.rhs.now (read_in c.args.terms.now c.args.chars.now c.args.c) _ c.count_same-from.ensures).1 in omega arith

pub count_same-n-requires-clause-lhs_strings : goal.count_same-n-requires-clause-lhs_strings
count_same-n-requires-clause-lhs_strings c =
    part-strings _ c.args.lhs.now c.count_same-from.result c.requires.lhs_value

pub count_same-n-requires-clause-rhs_strings : goal.count_same-n-requires-clause-rhs_strings
count_same-n-requires-clause-rhs_strings c =
    part-strings _ c.args.rhs.now c.count_same-from.result c.requires.rhs_value

pub overflow_sub-result : goal.overflow_sub-result
overflow_sub-result c =
    let p = (tails-least c.args.lhs.now c.args.rhs.now (read_in c.args.terms.now c.args.chars.now c.args.c)
    c.count_same-from.result _ c.count_same-n.ensures).0 in
    omega arith

pub overflow_sub-result-2 : goal.overflow_sub-result-2
overflow_sub-result-2 c =
    let p = (tails-least c.args.lhs.now c.args.rhs.now (read_in c.args.terms.now c.args.chars.now c.args.c)
    c.count_same-from.result _ c.count_same-n.ensures).1 in
    omega arith

pub returns : goal.returns
returns c =
    found c.args.lhs.now c.args.rhs.now (read_in c.args.terms.now c.args.chars.now c.args.c) _ _
    c.count_same-from.ensures c.count_same-n.ensures
