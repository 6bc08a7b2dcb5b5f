use Rattle.records.proofs.Refines.IndexReads.{reading-none, reading-not, reading-one, reading-all}
use Rattle.records.proofs.Refines.IndexBuckets.{bucket-low}
use Rattle.records.proofs.Lists.{within-is}
use Rattle.records.specs.Index.{bucket}
use Rattle.records.specs.View.{records_in}
use Prim.Native.Nat.{◌+◌, ◌-◌}
use mathlib.Core.Path.{◌≡◌, refl}
use native.Mathlib.Omega.{arith}
use borrow.Author.Rules.{rules}
use Rattle.records.proofs.index.terms_linked.Goals as goal

pub loop-t-init : goal.loop-t-init
loop-t-init c = reading-none _ _ _ _ c.requires.none_met

pub bucket_of_term-b-requires-clause-here : goal.bucket_of_term-b-requires-clause-here
bucket_of_term-b-requires-clause-here c = within-is _ _ (omega arith) (omega arith)

pub offset_bounds-ends-b : goal.offset_bounds-ends-b
offset_bounds-ends-b c = let h = bucket-low _ _ _ c.bucket_of_term-b.ensures in omega arith

pub bounds-ends-b : goal.bounds-ends-b
bounds-ends-b c = let h = bucket-low _ _ _ c.bucket_of_term-b.ensures in search (rules, h)

pub returns-then-word_after-t : goal.returns-then-word_after-t
returns-then-word_after-t c =
    let a = c.args in
    reading-not a.terms.now (bucket (records_in a.terms.now a.cells.now a.chars.now a.c)) a.c.terms (c.loop-t.t - 1) _ c.loop-t.invariant (omega arith) _ (omega arith) _ c.bucket_of_term-b.ensures (bucket-low _ _ _ c.bucket_of_term-b.ensures) _ c.word_after.ensures c.if-word_after-t.true

pub bounds-ends-b-in-loop-t : goal.bounds-ends-b-in-loop-t
bounds-ends-b-in-loop-t c = let h = bucket-low _ _ _ c.bucket_of_term-b.ensures in search (rules, h)

pub loop-t-preserved : goal.loop-t-preserved
loop-t-preserved c =
    let a = c.args in
    let e : (c.loop-t.t + 1) - 1 ≡ c.loop-t.t = omega arith in
    rw e (reading-one a.terms.now (bucket (records_in a.terms.now a.cells.now a.chars.now a.c)) a.c.terms (c.loop-t.t - 1) _ c.loop-t.invariant (omega arith) _ (omega arith) _ c.bucket_of_term-b.ensures (bucket-low _ _ _ c.bucket_of_term-b.ensures) _ c.word_after.ensures c.if-word_after-t.false _ refl)

pub returns-else-word_after-t : goal.returns-else-word_after-t
returns-else-word_after-t c =
    let a = c.args in
    reading-all a.terms.now (bucket (records_in a.terms.now a.cells.now a.chars.now a.c)) a.c.terms _ _ (reading-one a.terms.now (bucket (records_in a.terms.now a.cells.now a.chars.now a.c)) a.c.terms (c.loop-t.t - 1) _ c.loop-t.invariant (omega arith) _ (omega arith) _ c.bucket_of_term-b.ensures (bucket-low _ _ _ c.bucket_of_term-b.ensures) _ c.word_after.ensures c.if-word_after-t.false _ refl) (omega arith)
