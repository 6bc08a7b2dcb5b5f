use Rattle.std.proofs.Common.{◌≤◌, ◌<◌, length, take, arith, List, ℕ}
use Rattle.std.proofs.lemmas.List.{get_or-take}
use lib.Seq.{length-take-le}
use Rattle.classes.specs.declared.Standing.{Standing}
use Rattle.classes.specs.Working.Carries.{TrailSized}
use lib.ListN.{get_or}
use Rattle.classes.proofs.Refines.Counting.{counts-none, counts-first, rising_begin, rising_stop, rising_turn, rising_done}
use Rattle.classes.proofs.trail.counts_ok.Goals as goal

room : {l : List ℕ} {d : Standing} → TrailSized l d → d.marks ≤ length l
room s = let a = s.few_marks in let b = s.room in omega arith

counted : {l : List ℕ} {d : Standing} {i : ℕ} → TrailSized l d → i < length (take d.marks l) → i < d.marks
counted {l} {d} s h = let q = length-take-le d.marks l (room s) in omega arith

pub returns-then-d-eq0 : goal.returns-then-d-eq0
returns-then-d-eq0 c =
    counts-none (λ j. get_or c.args.marks.now j 0) _ _ c.if-d-eq0.true

pub returns-then-word-ne0 : goal.returns-then-word-ne0
returns-then-word-ne0 c =
    counts-first (λ j. get_or c.args.marks.now j 0) _ _ _ c.if-d-eq0.false c.word.ensures c.if-word-ne0.true

pub loop-n-init : goal.loop-n-init
loop-n-init c =
    rising_begin (λ j. get_or c.args.marks.now j 0) _ _ _ c.if-d-eq0.false c.word.ensures c.if-word-ne0.false

pub returns-then-n-last : goal.returns-then-n-last
returns-then-n-last c =
    let h : c.loop-n.n-index < c.args.d.marks = counted c.requires c.loop-n-test.true in
    rising_stop _ _ c.loop-n.invariant h _ (get_or-take c.args.d.marks c.args.marks.now c.loop-n.n-index 0 h) c.if-n-last.true

pub loop-n-preserved : goal.loop-n-preserved
loop-n-preserved c =
    let h : c.loop-n.n-index < c.args.d.marks = counted c.requires c.loop-n-test.true in
    rising_turn _ _ c.loop-n.invariant h _ (get_or-take c.args.d.marks c.args.marks.now c.loop-n.n-index 0 h) c.if-n-last.false

pub returns : goal.returns
returns c =
    let q = length-take-le c.args.d.marks c.args.marks.now (room c.requires) in
    rising_done _ _ c.loop-n.invariant (omega arith) _ c.wide.ensures
