use Rattle.forced.proofs.Refines.ForcedLengthCalls.{form-not, form-is}
use Rattle.forced.proofs.is_forced.Goals as goal

pub returns-then-is_fixed : goal.returns-then-is_fixed
returns-then-is_fixed c =
    form-is c.args.terms.now c.args.chars.now c.args.c c.args.word.now c.args.side.now _
    c.is_fixed.ensures c.if-is_fixed.true _ c.has_one_class.ensures

pub returns-else-is_fixed : goal.returns-else-is_fixed
returns-else-is_fixed c =
    form-not c.args.terms.now c.args.chars.now c.args.c c.args.word.now c.args.side.now _
    c.is_fixed.ensures c.if-is_fixed.false
