use mathlib.Core.Bool.{false}
use Rattle.std.proofs.Common.{rules}
use Rattle.records.proofs.Climbs.{root-counted, view_steps}
use Rattle.records.proofs.classes.root_unchecked.Goals as goal

pub returns : goal.returns
returns c =
    let l = c.args.terms.now in
    root-counted l _ _ _ (c.climb_unchecked.ensures _ (view_steps l c.args.n false _ c.requires.1 (λ x y h. search rules)))
