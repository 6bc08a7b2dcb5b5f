use Rattle.empties.proofs.Refines.EmptyPartsCalls.{empties_able, empties-strings, empties-done, empties-stop}
use Rattle.records.specs.Lists.{all}
use Rattle.records.specs.View.{lent, store_of}
use Rattle.records.proofs.Public.{handed}
use Rattle.records.proofs.ListLaws.{list-short}
use mathlib.Core.Path.{refl}
use native.Mathlib.Omega.{arith}
use borrow.Author.Rules.{rules}
use Rattle.empties.proofs.empties_unchecked.Goals as goal

pub make_constant_unchecked-requires : goal.make_constant_unchecked-requires
unfolding all
make_constant_unchecked-requires c =
    record {
      ready = search rules;
      c_value = refl;
    }

pub list_unmet-listed-requires : goal.list_unmet-listed-requires
list_unmet-listed-requires c =
    record {
      readable = empties_able c.args.side.now c.make_constant_unchecked.ensures c.in_ok-empty.was;
      strings = empties-strings c.args.side.now c.make_constant_unchecked.ensures c.in_ok-empty.was c.requires.ready
          c.requires.side_is_list;
      side_in_bounds = let a = list-short
          (store_of (lent c.args.terms.now c.args.cells.now c.args.chars.now c.args.reasons.now c.args.keys.now)
          c.args.c)
          c.args.side.now c.requires.side_is_list in
          let b = c.requires.list_limit_in_bounds in omega arith;
    }

pub returns : goal.returns
returns c =
    empties-done c.args.side.now c.make_constant_unchecked.ensures c.in_ok-empty.was c.list_unmet-listed.ensures

pub returns-in_err-empty : goal.returns-in_err-empty
returns-in_err-empty c =
    rw (handed _ c.from_residual.ensures.1) (empties-stop c.args.side.now c.make_constant_unchecked.ensures c.in_err-empty.was)
