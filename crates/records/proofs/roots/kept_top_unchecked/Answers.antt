use mathlib.Core.Bool.{true}
use Rattle.std.proofs.Common.{rules}
use Rattle.records.proofs.Climbs.{top-counted, view_steps}
use Rattle.records.proofs.roots.kept_top_unchecked.Goals as goal

pub kept_end_unchecked-requires-clause-steps : goal.kept_end_unchecked-requires-clause-steps
kept_end_unchecked-requires-clause-steps c = (_, view_steps c.args.terms.now c.args.n true _ c.requires.closed (λ x y h. search rules))

pub returns : goal.returns
returns c =
    let l = c.args.terms.now in
    top-counted l _ _ _ (c.kept_end_unchecked.ensures _ (view_steps l c.args.n true _ c.requires.closed (λ x y h. search rules)) c.requires.ends)
