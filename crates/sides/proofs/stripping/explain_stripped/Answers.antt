use mathlib.Core.Bool.{true}
use lib.ListN.{length}
use Rattle.sides.specs.Working.Stripping.{part}
use Rattle.records.proofs.Public.{handed}
use Rattle.records.proofs.Lists.{all_take}
use Rattle.sides.proofs.Refines.Stripping.{both-refused, heads-going, both-explained, through-length, tails_through, part-strings}
use Rattle.sides.proofs.Refines.AddingReasons.{going_strings}
use Rattle.sides.proofs.stripping.explain_stripped.Goals as goal

pub explain_pairs-requires-clause-lhs_strings : goal.explain_pairs-requires-clause-lhs_strings
explain_pairs-requires-clause-lhs_strings c =
    all_take _ c.args.rest.from c.args.lhs.now c.requires.lhs_strings

pub explain_pairs-requires-clause-rhs_strings : goal.explain_pairs-requires-clause-rhs_strings
explain_pairs-requires-clause-rhs_strings c =
    all_take _ c.args.rest.from c.args.rhs.now c.requires.rhs_strings

pub explain_pairs-requires-2 : goal.explain_pairs-requires-2
explain_pairs-requires-2 c =
    let going = heads-going c.args.terms.now c.args.cells.now c.args.chars.now c.args.keys.now c.args.lhs.now
    c.args.rhs.now c.args.rest c.requires.finds c.requires.ready c.requires.lhs_strings c.requires.rhs_strings _ _
    c.in_ok-d.ensures in
    record {
      ready = going.ready;
      lhs_strings = going_strings c.args.terms.now c.args.cells.now c.args.chars.now c.args.keys.now going _
          (part-strings _ c.args.lhs.now c.args.rest.lhs c.requires.lhs_strings);
      rhs_strings = going_strings c.args.terms.now c.args.cells.now c.args.chars.now c.args.keys.now going _
          (part-strings _ c.args.rhs.now c.args.rest.rhs c.requires.rhs_strings);
      one_length = through-length true (part c.args.lhs.now c.args.rest.lhs (length c.args.lhs.now)) (part c.args.rhs.now c.args.rest.rhs (length c.args.rhs.now))
          (tails_through c.args.lhs.now c.args.rhs.now c.args.rest c.requires.finds);
    }

pub returns-in_err-d : goal.returns-in_err-d
returns-in_err-d c =
    rw (handed _ c.from_residual.ensures.1)
    (both-refused c.args.terms.now c.args.cells.now c.args.chars.now c.args.keys.now c.args.lhs.now
    c.args.rhs.now c.args.rest c.requires.finds c.requires.ready c.requires.lhs_strings c.requires.rhs_strings _ _ c.in_err-d.ensures)

pub returns : goal.returns
returns c =
    both-explained c.args.terms.now c.args.cells.now c.args.chars.now c.args.keys.now c.args.lhs.now
    c.args.rhs.now c.args.rest c.requires.finds c.requires.ready c.requires.lhs_strings c.requires.rhs_strings _ _ c.in_ok-d.ensures _ c.explain_pairs-2.result c.explain_pairs-2.ensures
