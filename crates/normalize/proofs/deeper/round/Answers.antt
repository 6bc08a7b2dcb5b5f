use lib.ListN.{replicate}
use lib.Seq.{length-take-le}
use mathlib.Core.Path.{sym}
use Rattle.records.proofs.Public.{handed}
use Rattle.normalize.proofs.Refines.Words.{words-take}
use Rattle.normalize.proofs.Refines.Expanding.{words-list, round_of, expanded-ready, round-carried, round-fits, round-strings}
use Rattle.normalize.proofs.Refines.Rounding.{round-stands, round-ended, round-stopped, round-settled}
use Rattle.normalize.proofs.deeper.round.Goals as goal

pub returns-then-not-any_opens : goal.returns-then-not-any_opens
returns-then-not-any_opens c =
    rw (words-list c.args.list.now c.args.count c.requires.count_le_deep_limit)
    (round-stands _ _ _ _ _ c.any_opens.ensures c.requires.ready c.if-not-any_opens.true c.args.list.now c.args.count (sym (words-list c.args.list.now c.args.count c.requires.count_le_deep_limit)))

pub expand-requires-clause-round_of : goal.expand-requires-clause-round_of
expand-requires-clause-round_of c =
    round_of c.args.list.now c.args.count c.requires.count_le_deep_limit c.requires.strings c.requires.met_table

pub returns-in_err-made : goal.returns-in_err-made
returns-in_err-made c =
    rw (handed _ c.from_residual.ensures.1, words-list c.args.list.now c.args.count c.requires.count_le_deep_limit)
    (round-stopped _ _ _ _ _ c.any_opens.ensures c.if-not-any_opens.false (replicate 512 0) c.expand.new.next c.expand.new.met _ c.in_err-made.ensures _)

pub returns-in_default : goal.returns-in_default
returns-in_default c =
    rw (words-list c.args.list.now c.args.count c.requires.count_le_deep_limit)
    (round-ended _ _ _ _ _ c.any_opens.ensures c.if-not-any_opens.false (replicate 512 0) c.expand.new.next c.expand.new.met _ (rw c.in_default.is at c.in_ok-made.ensures) _)

pub slice_bounds-next-end : goal.slice_bounds-next-end
slice_bounds-next-end c =
    round-fits c.requires.ready _ _ c.requires.candidates _ (round_of c.args.list.now c.args.count c.requires.count_le_deep_limit c.requires.strings c.requires.met_table) _ _ (rw c.in-Some.is at c.in_ok-made.ensures) c.expand.auto.next

pub slice_bounds-after-end : goal.slice_bounds-after-end
slice_bounds-after-end c =
    sym (length-take-le c.in-Some.k c.expand.new.next (round-fits c.requires.ready _ _ c.requires.candidates _ (round_of c.args.list.now c.args.count c.requires.count_le_deep_limit c.requires.strings c.requires.met_table) _ _ (rw c.in-Some.is at c.in_ok-made.ensures) c.expand.auto.next))

pub settle-requires-clause-ready : goal.settle-requires-clause-ready
settle-requires-clause-ready c =
    expanded-ready (rw c.in-Some.is at c.in_ok-made.ensures)

pub settle-requires-clause-strings : goal.settle-requires-clause-strings
settle-requires-clause-strings c =
    round-strings c.requires.ready _ _ c.requires.candidates _ (round_of c.args.list.now c.args.count c.requires.count_le_deep_limit c.requires.strings c.requires.met_table) _ _ (rw c.in-Some.is at c.in_ok-made.ensures) c.expand.auto.next

pub returns : goal.returns
returns c =
    rw (words-list c.args.list.now c.args.count c.requires.count_le_deep_limit)
    (round-settled _ _ _ _ _ c.any_opens.ensures c.if-not-any_opens.false (replicate 512 0) c.expand.new.next c.expand.new.met _ _ (rw c.in-Some.is at c.in_ok-made.ensures)
    (round-carried c.requires.ready _ _ c.requires.candidates _ (round_of c.args.list.now c.args.count c.requires.count_le_deep_limit c.requires.strings c.requires.met_table) _ _ (rw c.in-Some.is at c.in_ok-made.ensures))
    _ _ (rw (words-list c.args.list.now c.args.count c.requires.count_le_deep_limit, ← words-take c.expand.new.next c.in-Some.k (round-fits c.requires.ready _ _ c.requires.candidates _ (round_of c.args.list.now c.args.count c.requires.count_le_deep_limit c.requires.strings c.requires.met_table) _ _ (rw c.in-Some.is at c.in_ok-made.ensures) c.expand.auto.next)) at c.settle.ensures))
