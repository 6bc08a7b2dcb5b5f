use mathlib.Core.Path.{refl}
use Rattle.records.specs.View.{read_in}
use Rattle.sides.proofs.Refines.SideWalk.{heads-end, heads-both}
use Rattle.sides.proofs.letters.same_letter.Goals as goal

pub returns-then-x-r : goal.returns-then-x-r
returns-then-x-r c =
    heads-both _ _ _ _ _ _ _ c.letter.ensures c.letter-then-x-r.ensures refl

pub returns-else-x-r : goal.returns-else-x-r
returns-else-x-r c =
    let e = heads-end (read_in c.args.terms.now c.args.chars.now c.args.c) c.args.l.now c.args.r.now c.args.k c.args.x c.if-x-r.either in cc
