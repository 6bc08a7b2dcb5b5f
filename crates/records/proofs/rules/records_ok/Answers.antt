use Rattle.records.specs.Rules.{records_rule, reason_rule, key_rule}
use Rattle.records.specs.View.{termed}
use Rattle.records.proofs.Refines.TermLaws.{terms-of, cells_of, keys_of}
use Rattle.records.proofs.Refines.Texts.{view-take}
use native.Mathlib.Omega.{arith}
use borrow.Author.Rules.{rules}
use Rattle.records.proofs.rules.records_ok.Goals.{then-chars_ok, else-chars_ok}
use Rattle.records.proofs.rules.records_ok.Goals as goal

pub returns-then-pairs_pass : goal.returns-then-pairs_pass
unfolding records_rule
returns-then-pairs_pass c =
    let a = c.args in
    let t = terms-of a.terms.now a.cells.now a.chars.now a.reasons.now a.keys.now a.c in
    let v = view-take a.chars.now a.c.chars c.requires.char_room in
    let d = cells_of a.terms.now a.cells.now a.chars.now a.reasons.now a.keys.now a.c in
    let k = keys_of a.terms.now a.cells.now a.chars.now a.reasons.now a.keys.now a.c in
    let p = c.pairs_pass-then-pairs_pass.ensures (key_rule (termed a.terms.now a.c)) (λ x y r h. search rules) in
    elim c.if-chars_ok.branch [
      | then-chars_ok w ↦ (let q = w.pairs_pass.ensures reason_rule (λ x y r h. search rules) in grind arith)
      | else-chars_ok w ↦ grind arith
    ]

pub returns-else-pairs_pass : goal.returns-else-pairs_pass
unfolding records_rule
returns-else-pairs_pass c =
    let a = c.args in
    let t = terms-of a.terms.now a.cells.now a.chars.now a.reasons.now a.keys.now a.c in
    let v = view-take a.chars.now a.c.chars c.requires.char_room in
    let d = cells_of a.terms.now a.cells.now a.chars.now a.reasons.now a.keys.now a.c in
    elim c.if-chars_ok.branch [
      | then-chars_ok w ↦ (let q = w.pairs_pass.ensures reason_rule (λ x y r h. search rules) in grind arith)
      | else-chars_ok w ↦ grind arith
    ]
