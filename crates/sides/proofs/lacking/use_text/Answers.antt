use mathlib.Core.Path.{◌≡◌}
use native.Mathlib.Omega.{arith}
use lib.ListN.{replicate}
use borrow.Author.Rules.{rules}
use Rattle.sides.proofs.Refines.LackingPlaces.{used-filled}
use Rattle.sides.proofs.lacking.use_text.Goals as goal

pub returns : goal.returns
returns c =
    let e : c.fill.new.self ≡ replicate c.args.n 1 = search rules in
    used-filled c.args.table.now c.args.p c.args.n _ (omega arith) e
