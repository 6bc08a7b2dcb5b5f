use Rattle.sides.proofs.Refines.LackingSides.{absent-not, absent-bare, absent-is}
use Rattle.sides.proofs.lacking.absent.Goals as goal

pub returns-then-not-is_fixed : goal.returns-then-not-is_fixed
returns-then-not-is_fixed c =
    absent-not c.args.terms.now c.args.chars.now c.args.c c.args.l.now c.args.r.now _ c.is_fixed.ensures
    c.if-not-is_fixed.true-raw

pub returns-then-letters_length_unchecked-eq0 : goal.returns-then-letters_length_unchecked-eq0
returns-then-letters_length_unchecked-eq0 c =
    absent-bare c.args.terms.now c.args.chars.now c.args.c c.args.l.now c.args.r.now c.requires.0.texts _
    c.letters_length_unchecked.ensures c.if-letters_length_unchecked-eq0.true

pub returns : goal.returns
returns c =
    absent-is c.args.terms.now c.args.chars.now c.args.c c.args.l.now c.args.r.now _ c.is_fixed.ensures c.if-not-is_fixed.false-raw c.requires.0.texts.limited _ _ _
    c.use_side.ensures c.lacks_side.ensures
