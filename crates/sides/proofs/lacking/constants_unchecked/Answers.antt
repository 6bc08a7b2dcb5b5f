use mathlib.Core.List.{[]}
use native.Mathlib.Omega.{arith}
use Rattle.std.proofs.lemmas.Grind.{common_steps}
use Rattle.records.specs.View.{lent}
use Rattle.sides.specs.Working.Lacking.{conflicts}
use Rattle.sides.proofs.SideReady.{short-whole}
use Rattle.sides.proofs.lacking.constants_unchecked.Goals as goal

pub returns-then-absent : goal.returns-then-absent
unfolding conflicts
returns-then-absent c =
    let m = lent c.args.terms.now [] c.args.chars.now [] [] in
    let a = short-whole m c.args.c c.requires.0.texts c.args.l.now c.args.r.now in
    let b = short-whole m c.args.c c.requires.0.texts c.args.r.now c.args.l.now in
    grind (arith, common_steps)

pub returns-else-absent : goal.returns-else-absent
unfolding conflicts
returns-else-absent c =
    let m = lent c.args.terms.now [] c.args.chars.now [] [] in
    let a = short-whole m c.args.c c.requires.0.texts c.args.l.now c.args.r.now in
    let b = short-whole m c.args.c c.requires.0.texts c.args.r.now c.args.l.now in
    grind (arith, common_steps)
