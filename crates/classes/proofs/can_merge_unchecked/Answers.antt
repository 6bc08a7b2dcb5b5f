use Rattle.std.proofs.lemmas.Grind.{common_steps}
use Rattle.std.proofs.Common.{◌≡◌, ◌&&◌, arith}
use mathlib.Core.Path.{◌∙◌}
use Rattle.records.specs.Store.{is_string}
use Rattle.records.specs.View.{lent, store_of}
use Rattle.classes.proofs.Refines.Merge.{counted, rooted, child-counted, test-root, test-uncounted, child-climbs, parent-climbs, cannot-merge, can-last}
use Rattle.classes.proofs.can_merge_unchecked.Goals as goal
use Rattle.classes.proofs.can_merge_unchecked.Goals.{then-is_number, else-is_number}

pub is_root-requires : goal.is_root-requires
is_root-requires c =
    let m = lent c.args.terms.now c.args.cells.now c.args.chars.now c.args.reasons.now c.args.keys.now in
    let v : c.if-is_string.value ≡ (is_string (store_of m c.args.c) c.args.child && is_string (store_of m c.args.c) c.args.parent) = grind (arith, common_steps) in
    let w : c.if-is_string-2.value ≡ counted m c.args.c c.args.child c.args.parent c.args.n = grind (arith, common_steps) in
    child-counted m c.args.c c.args.child c.args.parent c.args.n _ w c.if-is_number.true

pub root_unchecked-requires : goal.root_unchecked-requires
root_unchecked-requires c =
    let m = lent c.args.terms.now c.args.cells.now c.args.chars.now c.args.reasons.now c.args.keys.now in
    let v : c.if-is_string.value ≡ (is_string (store_of m c.args.c) c.args.child && is_string (store_of m c.args.c) c.args.parent) = grind (arith, common_steps) in
    let w : c.if-is_string-2.value ≡ counted m c.args.c c.args.child c.args.parent c.args.n = grind (arith, common_steps) in
    let x : c.if-is_number.value ≡ rooted m c.args.c c.args.child c.args.parent c.args.n = elim c.if-is_number.branch [
      | then-is_number b ↦ b.value-is ∙ test-root m c.args.c c.args.child c.args.parent c.args.n _ w b.if-is_number.true _ b.is_root.ensures
      | else-is_number b ↦ b.value-is ∙ test-uncounted m c.args.c c.args.child c.args.parent c.args.n _ w b.if-is_number.false
    ] in
    child-climbs m c.args.c c.args.child c.args.parent c.args.n _ x c.if-is_root.true c.requires

pub root_unchecked-requires-then-is_root : goal.root_unchecked-requires-then-is_root
root_unchecked-requires-then-is_root c =
    let m = lent c.args.terms.now c.args.cells.now c.args.chars.now c.args.reasons.now c.args.keys.now in
    let v : c.if-is_string.value ≡ (is_string (store_of m c.args.c) c.args.child && is_string (store_of m c.args.c) c.args.parent) = grind (arith, common_steps) in
    let w : c.if-is_string-2.value ≡ counted m c.args.c c.args.child c.args.parent c.args.n = grind (arith, common_steps) in
    let x : c.if-is_number.value ≡ rooted m c.args.c c.args.child c.args.parent c.args.n = elim c.if-is_number.branch [
      | then-is_number b ↦ b.value-is ∙ test-root m c.args.c c.args.child c.args.parent c.args.n _ w b.if-is_number.true _ b.is_root.ensures
      | else-is_number b ↦ b.value-is ∙ test-uncounted m c.args.c c.args.child c.args.parent c.args.n _ w b.if-is_number.false
    ] in
    parent-climbs m c.args.c c.args.child c.args.parent c.args.n _ x c.if-is_root.true c.requires

pub returns-then-is_root : goal.returns-then-is_root
returns-then-is_root c =
    let m = lent c.args.terms.now c.args.cells.now c.args.chars.now c.args.reasons.now c.args.keys.now in
    let v : c.if-is_string.value ≡ (is_string (store_of m c.args.c) c.args.child && is_string (store_of m c.args.c) c.args.parent) = grind (arith, common_steps) in
    let w : c.if-is_string-2.value ≡ counted m c.args.c c.args.child c.args.parent c.args.n = grind (arith, common_steps) in
    let x : c.if-is_number.value ≡ rooted m c.args.c c.args.child c.args.parent c.args.n = elim c.if-is_number.branch [
      | then-is_number b ↦ b.value-is ∙ test-root m c.args.c c.args.child c.args.parent c.args.n _ w b.if-is_number.true _ b.is_root.ensures
      | else-is_number b ↦ b.value-is ∙ test-uncounted m c.args.c c.args.child c.args.parent c.args.n _ w b.if-is_number.false
    ] in
    can-last m c.args.c c.args.child c.args.parent c.args.n _ x c.if-is_root.true _ _ c.root_unchecked.ensures c.root_unchecked-then-is_root.ensures

pub returns-else-is_root : goal.returns-else-is_root
returns-else-is_root c =
    let m = lent c.args.terms.now c.args.cells.now c.args.chars.now c.args.reasons.now c.args.keys.now in
    let v : c.if-is_string.value ≡ (is_string (store_of m c.args.c) c.args.child && is_string (store_of m c.args.c) c.args.parent) = grind (arith, common_steps) in
    let w : c.if-is_string-2.value ≡ counted m c.args.c c.args.child c.args.parent c.args.n = grind (arith, common_steps) in
    let x : c.if-is_number.value ≡ rooted m c.args.c c.args.child c.args.parent c.args.n = elim c.if-is_number.branch [
      | then-is_number b ↦ b.value-is ∙ test-root m c.args.c c.args.child c.args.parent c.args.n _ w b.if-is_number.true _ b.is_root.ensures
      | else-is_number b ↦ b.value-is ∙ test-uncounted m c.args.c c.args.child c.args.parent c.args.n _ w b.if-is_number.false
    ] in
    cannot-merge m c.args.c c.args.child c.args.parent c.args.n _ x c.if-is_root.false
