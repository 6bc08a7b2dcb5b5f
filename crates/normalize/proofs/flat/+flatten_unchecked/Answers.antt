use mathlib.Core.Bool.{false}
use mathlib.Core.Path.{refl, sym, ap, ◌∙◌}
use Rattle.held.proofs.Linking.{is_cell, other_tag, step_words_lem, words-none}
use Rattle.normalize.proofs.Refines.Flats.{one-atom, begin, ended, part_lower, part_passes, part_done, chain_falls}
use native.Mathlib.Omega.{arith}
use Rattle.normalize.proofs.flat.+flatten_unchecked.Goals as goal

pub returns-then-not-is_a : goal.returns-then-not-is_a
returns-then-not-is_a t c =
    search one-atom

pub loop-v-init : goal.loop-v-init
loop-v-init t c =
    search begin

pub flatten_unchecked-k-requires : goal.flatten_unchecked-k-requires
flatten_unchecked-k-requires t c =
    let h = part_lower _ _ _ _ c.requires.nested c.loop-v.invariant (step_words_lem c.args.cells.now c.args.m _ _ _ _ c.in-Cell.ensures) in
    let e = c.requires-raw.0 in (
      omega arith,
      (c.requires.nested, (c.loop-v.invariant.from, omega arith)),
    )

pub returns-then-k-gt-LIST_LIMIT : goal.returns-then-k-gt-LIST_LIMIT
returns-then-k-gt-LIST_LIMIT t c =
    let f = c.loop-v.invariant.from in
    let l = c.loop-v.auto.out in
    let p = c.requires.count_le_list_limit in
    let q = c.requires.list_limit_in_bounds in
    part_passes _ _ _ _ c.requires.nested c.loop-v.invariant (step_words_lem c.args.cells.now c.args.m _ _ _ _ c.in-Cell.ensures) _ _ (omega arith) (omega arith) c.flatten_unchecked-k.ensures c.if-k-gt-LIST_LIMIT.true

pub loop-v-smaller : goal.loop-v-smaller
loop-v-smaller t c =
    chain_falls _ _ _ _ c.requires.nested c.loop-v.invariant (step_words_lem c.args.cells.now c.args.m _ _ _ _ c.in-Cell.ensures)

pub loop-v-preserved : goal.loop-v-preserved
loop-v-preserved t c =
    part_done _ _ _ _ c.requires.nested c.loop-v.invariant (step_words_lem c.args.cells.now c.args.m _ _ _ _ c.in-Cell.ensures) _ _ c.flatten_unchecked-k.ensures c.if-k-gt-LIST_LIMIT.false

pub returns : goal.returns
returns t c =
    ended _ _ _ _ c.requires.nested c.loop-v.invariant false
    (words-none c.args.cells.now c.args.m _ c.requires.nested.ascends
    (ap is_cell (sym c.next_link.ensures) ∙ other_tag c.next_link.result c.in_default.not-Cell))
    refl
