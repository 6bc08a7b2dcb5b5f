use Rattle.records.specs.View.{read_in}
use Rattle.records.proofs.ListLaws.{list-short}
use Rattle.sides.proofs.Residual.{texts-read}
use Rattle.forced.proofs.Refines.ForcedLengthCalls.{fit-short, fit-spans, some-counted}
use native.Mathlib.Omega.{arith}
use Rattle.forced.proofs.side_fit.Goals as goal

pub letters_length_unchecked-n-requires : goal.letters_length_unchecked-n-requires
letters_length_unchecked-n-requires c = (
  texts-read c.args.terms.now c.args.chars.now c.args.c c.requires.readable,
  list-short (read_in c.args.terms.now c.args.chars.now c.args.c) c.args.side.now c.requires.both_lists.right,
)

pub letters_length_unchecked-l-requires : goal.letters_length_unchecked-l-requires
letters_length_unchecked-l-requires c = (
  texts-read c.args.terms.now c.args.chars.now c.args.c c.requires.readable,
  list-short (read_in c.args.terms.now c.args.chars.now c.args.c) c.args.word.now c.requires.both_lists.left,
)

pub returns-then-l-n : goal.returns-then-l-n
returns-then-l-n c =
    fit-short c.args.terms.now c.args.chars.now c.args.c c.requires.readable c.args.word.now c.args.side.now _ _ _
    c.variables_length-k.ensures c.letters_length_unchecked-n.ensures c.letters_length_unchecked-l.ensures c.if-l-n.true

pub nonzero_div-result : goal.nonzero_div-result
nonzero_div-result c =
    (let k = some-counted c.args.terms.now c.args.chars.now c.args.c c.requires.readable c.args.word.now c.args.side.now _
    _ _ c.variables_length-k.ensures c.letters_length_unchecked-n.ensures c.letters_length_unchecked-l.ensures c.requires.is_forced in
    omega arith)

pub nonzero_rem-result : goal.nonzero_rem-result
nonzero_rem-result c =
    (let k = some-counted c.args.terms.now c.args.chars.now c.args.c c.requires.readable c.args.word.now c.args.side.now _
    _ _ c.variables_length-k.ensures c.letters_length_unchecked-n.ensures c.letters_length_unchecked-l.ensures c.requires.is_forced in
    omega arith)

pub returns-else-l-n : goal.returns-else-l-n
returns-else-l-n c =
    fit-spans c.args.terms.now c.args.chars.now c.args.c c.requires.readable c.args.word.now c.args.side.now _ _ _
    c.variables_length-k.ensures c.letters_length_unchecked-n.ensures c.letters_length_unchecked-l.ensures c.if-l-n.false
