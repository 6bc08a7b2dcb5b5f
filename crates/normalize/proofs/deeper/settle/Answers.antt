use mathlib.Core.Path.{refl, ◌∙◌}
use native.Mathlib.Omega.{arith}
use Rattle.normalize.proofs.Refines.Words.{words_same, words-part}
use Rattle.normalize.proofs.Refines.Rounding.{settle-long, settle-same, settle_other}
use Rattle.normalize.proofs.deeper.settle.Goals as goal

pub returns-then-n-gt-DEEP_NF_ATOM_CAP : goal.returns-then-n-gt-DEEP_NF_ATOM_CAP
returns-then-n-gt-DEEP_NF_ATOM_CAP c =
    settle-long _ _ c.push_all.new.out _ _ c.in_ok-n.ensures c.if-n-gt-DEEP_NF_ATOM_CAP.true _

pub returns-then-eq : goal.returns-then-eq
returns-then-eq c =
    let e = c.push_all.auto.out in
    let h = c.if-n-gt-DEEP_NF_ATOM_CAP.false in
    settle-same _ _ c.push_all.new.out _ _ c.in_ok-n.ensures h _ (c.eq.ensures ∙ words_same _ _ _ _ (omega arith) c.requires.count_in_bounds) c.if-eq.true
    c.args.list.now c.args.count refl

pub returns : goal.returns
returns c =
    let e = c.push_all.auto.out in
    let h = c.if-n-gt-DEEP_NF_ATOM_CAP.false in
    let l = c.requires.deep_limit_in_bounds in
    settle_other _ _ c.push_all.new.out _ _ c.in_ok-n.ensures h _ (c.eq.ensures ∙ words_same _ _ _ _ (omega arith) c.requires.count_in_bounds) c.if-eq.false
    c.args.list.now _ (words-part c.args.list.now c.push_all.new.out _ 0 _ _ (omega arith) (omega arith) c.copy_from_slice.ensures.after)
