use Rattle.forced.proofs.Refines.ForcedLengthCalls.{read-strings, place-fits, parts-lists, stripped}
use Rattle.records.specs.View.{lent}
use Rattle.forced.proofs.residual_fit.Goals as goal

pub find_rest_unchecked-rest-requires : goal.find_rest_unchecked-rest-requires
find_rest_unchecked-rest-requires c =
    record {
      readable = record { cells = c.args.cells.now; reasons = c.args.reasons.now; keys = c.args.keys.now; ready = c.requires.ready };
      lhs_value = read-strings (lent c.args.terms.now c.args.cells.now c.args.chars.now c.args.reasons.now c.args.keys.now)
          c.args.c c.args.lhs.now c.requires.both_lists.left;
      rhs_value = read-strings (lent c.args.terms.now c.args.cells.now c.args.chars.now c.args.reasons.now c.args.keys.now)
          c.args.c c.args.rhs.now c.requires.both_lists.right;
    }

pub offset_bounds-lhs-rest : goal.offset_bounds-lhs-rest
offset_bounds-lhs-rest c =
    record { fits = place-fits (lent c.args.terms.now c.args.cells.now c.args.chars.now c.args.reasons.now c.args.keys.now) c.args.c c.args.lhs.now _ _ c.requires.both_lists.left c.find_rest_unchecked-rest.ensures.inside.0 c.find_rest_unchecked-rest.ensures.inside.1 }

pub slice_bounds-left-count : goal.slice_bounds-left-count
slice_bounds-left-count c =
    c.find_rest_unchecked-rest.ensures.inside.0

pub slice_bounds-left-start : goal.slice_bounds-left-start
slice_bounds-left-start c =
    c.find_rest_unchecked-rest.ensures.inside.0

pub slice_bounds-left-end : goal.slice_bounds-left-end
slice_bounds-left-end c =
    c.find_rest_unchecked-rest.ensures.inside.1

pub offset_bounds-rhs-rest : goal.offset_bounds-rhs-rest
offset_bounds-rhs-rest c =
    record { fits = place-fits (lent c.args.terms.now c.args.cells.now c.args.chars.now c.args.reasons.now c.args.keys.now) c.args.c c.args.rhs.now _ _ c.requires.both_lists.right c.find_rest_unchecked-rest.ensures.inside.2 c.find_rest_unchecked-rest.ensures.inside.3 }

pub slice_bounds-right-count : goal.slice_bounds-right-count
slice_bounds-right-count c =
    c.find_rest_unchecked-rest.ensures.inside.2

pub slice_bounds-right-start : goal.slice_bounds-right-start
slice_bounds-right-start c =
    c.find_rest_unchecked-rest.ensures.inside.2

pub slice_bounds-right-end : goal.slice_bounds-right-end
slice_bounds-right-end c =
    c.find_rest_unchecked-rest.ensures.inside.3

pub sides_fit-requires : goal.sides_fit-requires
sides_fit-requires c =
    record {
      ready = c.requires.ready;
      both_lists = parts-lists (lent c.args.terms.now c.args.cells.now c.args.chars.now c.args.reasons.now c.args.keys.now)
          c.args.c c.args.lhs.now c.args.rhs.now c.find_rest_unchecked-rest.result.from
          c.find_rest_unchecked-rest.result.lhs c.find_rest_unchecked-rest.result.rhs c.requires.both_lists;
    }

pub returns : goal.returns
returns c =
    stripped (lent c.args.terms.now c.args.cells.now c.args.chars.now c.args.reasons.now c.args.keys.now)
    c.args.c c.args.lhs.now c.args.rhs.now c.find_rest_unchecked-rest.result
    c.find_rest_unchecked-rest.ensures c.sides_fit.ensures
