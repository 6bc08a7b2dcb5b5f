use Rattle.records.proofs.Refines.IndexBuckets.{bucket-low, joined-within, joined-turn, joined-done}
use mathlib.Core.Path.{◌∙◌}
use native.Mathlib.Omega.{arith}
use Rattle.records.proofs.index.bucket_of_joined.Goals as goal

pub bucket_of_text-requires : goal.bucket_of_text-requires
bucket_of_text-requires c =
    let a = c.args in
    joined-within a.terms.now a.chars.now a.list.now c.loop-t.t-index _ _ c.loop-t-test.true (c.wide-p.ensures ∙ c.first.ensures)
    (c.wide-n.ensures ∙ c.second.ensures) _ c.requires

pub overflow_add-b : goal.overflow_add-b
overflow_add-b c =
    let h = bucket-low _ _ _ c.bucket_of_text.ensures in omega (arith, c.loop-t.invariant.small)

pub loop-t-preserved : goal.loop-t-preserved
loop-t-preserved c =
    let a = c.args in
    joined-turn a.terms.now a.chars.now a.list.now c.loop-t.t-index _ _ c.loop-t-test.true (c.wide-p.ensures ∙ c.first.ensures)
    (c.wide-n.ensures ∙ c.second.ensures) _ _ _ c.loop-t.invariant c.bucket_of_text.ensures

pub returns : goal.returns
returns c =
    let a = c.args in joined-done a.terms.now a.chars.now a.list.now _ _ _ c.loop-t.invariant c.loop-t-test.false
