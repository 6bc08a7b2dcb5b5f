use Rattle.records.specs.View.{read_in, termed}
use Rattle.sides.proofs.Refines.TileCalls.{list-string, after-strings, after-short, readable_read_in, unfit-apart, unfit-is}
use Rattle.records.proofs.ListLaws.{list-short}
use native.Mathlib.Omega.{arith}
use Rattle.sides.proofs.spans.is_unfit.Goals as goal

pub all_agree_unchecked-requires-clause-l_value : goal.all_agree_unchecked-requires-clause-l_value
all_agree_unchecked-requires-clause-l_value c =
    after-strings (read_in c.args.terms.now c.args.chars.now c.args.c) c.args.side.now c.args.i
    c.requires.lists.1

pub all_agree_unchecked-requires-clause-v_value : goal.all_agree_unchecked-requires-clause-v_value
all_agree_unchecked-requires-clause-v_value c =
    list-string (read_in c.args.terms.now c.args.chars.now c.args.c) c.args.side.now c.requires.lists.1 c.args.i
    c.requires.lists.3

pub returns-then-all_agree_unchecked : goal.returns-then-all_agree_unchecked
returns-then-all_agree_unchecked c =
    unfit-is c.args.terms.now c.args.chars.now c.args.c c.args.word.now c.args.side.now c.args.i _
    c.all_agree_unchecked.ensures c.if-all_agree_unchecked.true _ c.variables_length.ensures _ c.fits.ensures

pub returns-else-all_agree_unchecked : goal.returns-else-all_agree_unchecked
returns-else-all_agree_unchecked c =
    unfit-apart c.args.terms.now c.args.chars.now c.args.c c.args.word.now c.args.side.now c.args.i _
    c.all_agree_unchecked.ensures c.if-all_agree_unchecked.false

pub overflow_add-variables_length : goal.overflow_add-variables_length
overflow_add-variables_length c =
    let z = after-short (termed c.args.terms.now c.args.c) c.args.side.now c.args.i _ c.requires.lists.3 c.variables_length.ensures in
    let y = list-short (read_in c.args.terms.now c.args.chars.now c.args.c) c.args.side.now c.requires.lists.1 in omega arith

pub fits-requires : goal.fits-requires
fits-requires c = (
  readable_read_in c.args.terms.now c.args.chars.now c.args.c c.requires.readable,
  c.requires.lists.0,
  list-short (read_in c.args.terms.now c.args.chars.now c.args.c) c.args.side.now c.requires.lists.1,
  c.requires.lists.2,
  omega arith,
)
