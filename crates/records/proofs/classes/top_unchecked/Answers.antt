use mathlib.Core.Bool.{true}
use Rattle.std.proofs.Common.{rules}
use Rattle.records.proofs.Climbs.{top-counted, view_steps}
use Rattle.records.proofs.classes.top_unchecked.Goals as goal

pub returns : goal.returns
returns c =
    let l = c.args.terms.now in
    top-counted l _ _ _ (c.climb_unchecked.ensures _ (view_steps l c.args.n true _ c.requires.1 (λ x y h. search rules)))
