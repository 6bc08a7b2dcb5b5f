use Rattle.forced.proofs.Refines.ForcedLengthCalls.{forced_refused, forced-unfit, forced-ready, forced-lists, forced_called}
use Rattle.records.proofs.Public.{handed}
use Rattle.records.specs.View.{lent}
use mathlib.Core.Path.{refl}
use Rattle.forced.proofs.forced_length.Goals as goal

pub returns-in_err-audit : goal.returns-in_err-audit
returns-in_err-audit c =
    rw (handed _ c.from_residual.ensures.1) (forced_refused _ _ _ _ _ c.in_err-audit.ensures)

pub returns-then-not-are_lists : goal.returns-then-not-are_lists
returns-then-not-are_lists c =
    forced-unfit c.args.lhs.now c.args.rhs.now
    (lent c.args.terms.now c.args.cells.now c.args.chars.now c.args.reasons.now c.args.keys.now) c.args.c
    _ c.in_ok-audit.ensures refl _ c.are_lists.ensures c.if-not-are_lists.true

pub forced_unchecked-requires : goal.forced_unchecked-requires
forced_unchecked-requires c =
    record {
      ready = forced-ready c.args.lhs.now c.args.rhs.now
          (lent c.args.terms.now c.args.cells.now c.args.chars.now c.args.reasons.now c.args.keys.now)
          c.args.c _ c.in_ok-audit.ensures refl _ c.are_lists.ensures c.if-not-are_lists.false;
      both_lists = forced-lists c.args.lhs.now c.args.rhs.now
          (lent c.args.terms.now c.args.cells.now c.args.chars.now c.args.reasons.now c.args.keys.now)
          c.args.c _ c.in_ok-audit.ensures refl _ c.are_lists.ensures c.if-not-are_lists.false;
    }

pub returns : goal.returns
returns c =
    forced_called c.args.lhs.now c.args.rhs.now
    (lent c.args.terms.now c.args.cells.now c.args.chars.now c.args.reasons.now c.args.keys.now) c.args.c
    _ c.in_ok-audit.ensures refl _ c.are_lists.ensures c.if-not-are_lists.false c.forced_unchecked.ensures
