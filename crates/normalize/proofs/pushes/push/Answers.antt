use mathlib.Core.Path.{sym, refl, ◌∙◌}
use Rattle.normalize.proofs.Refines.Pushing.{push-empty, push-joined, push-plain, joins-some}
use native.Mathlib.Omega.{arith}
use Rattle.normalize.proofs.pushes.push.Goals as goal

pub join_last-requires-clause-count_nonzero : goal.join_last-requires-clause-count_nonzero
join_last-requires-clause-count_nonzero c =
    joins-some _ _ c.args.list.now _ (sym c.joins_with_last.ensures ∙ c.if-joins_with_last.true)

pub returns-then-is_empty : goal.returns-then-is_empty
returns-then-is_empty c =
    push-empty c.requires.ready _ _ _ c.is_empty.ensures c.if-is_empty.true

pub returns-then-joins_with_last : goal.returns-then-joins_with_last
returns-then-joins_with_last c =
    push-joined c.requires.ready _ _ _ c.is_empty.ensures c.if-is_empty.false c.join_last.ensures

pub returns-else-joins_with_last : goal.returns-else-joins_with_last
returns-else-joins_with_last c =
    push-plain c.requires.ready _ _ _ c.is_empty.ensures c.if-is_empty.false c.args.list.now c.args.count refl
    (let h0 = c.requires.count_lt_list_limit in let h1 = c.requires.list_limit_in_bounds in omega arith) _ c.joins_with_last.ensures c.if-joins_with_last.false
