use Rattle.records.proofs.Public.{cut-asked, handed, passed-ready}
use Rattle.empties.proofs.Refines.EmptyPartsCalls.{parts-short, parts_refused, parts-unfit, parts-ready, parts-lists, parts_called, undone-listed}
use Rattle.records.specs.View.{lent}
use mathlib.Core.Path.{refl}
use Rattle.empties.proofs.empty_parts.Goals as goal

pub returns-then-list-lt-LIST_LIMIT : goal.returns-then-list-lt-LIST_LIMIT
returns-then-list-lt-LIST_LIMIT c =
    parts-short _ _ _ _ c.args.list.now c.if-list-lt-LIST_LIMIT.true

pub returns-in_err-audit : goal.returns-in_err-audit
returns-in_err-audit c =
    rw (handed _ c.from_residual.ensures.1) (parts_refused _ _ _ _ c.args.list.now c.if-list-lt-LIST_LIMIT.false _ c.in_err-audit.ensures)

pub returns-then-not-are_lists : goal.returns-then-not-are_lists
returns-then-not-are_lists c =
    parts-unfit c.args.lhs.now c.args.rhs.now _ _ c.args.list.now c.if-list-lt-LIST_LIMIT.false _ c.in_ok-audit.ensures refl _
    c.are_lists.ensures c.if-not-are_lists.true

pub empty_parts_unchecked-parts-requires : goal.empty_parts_unchecked-parts-requires
empty_parts_unchecked-parts-requires c =
    record {
      ready = parts-ready c.args.lhs.now c.args.rhs.now
          (lent c.args.terms.now c.args.cells.now c.args.chars.now c.args.reasons.now c.args.keys.now)
          c.args.c c.args.list.now c.if-list-lt-LIST_LIMIT.false _ c.in_ok-audit.ensures refl _ c.are_lists.ensures
          c.if-not-are_lists.false;
      both_lists = parts-lists c.args.lhs.now c.args.rhs.now
          (lent c.args.terms.now c.args.cells.now c.args.chars.now c.args.reasons.now c.args.keys.now)
          c.args.c c.args.list.now c.if-list-lt-LIST_LIMIT.false _ c.in_ok-audit.ensures refl _ c.are_lists.ensures
          c.if-not-are_lists.false;
      list_limit_in_bounds = c.if-list-lt-LIST_LIMIT.false;
    }

pub cut_refused_unchecked-requires : goal.cut_refused_unchecked-requires
cut_refused_unchecked-requires c =
    let h = cut-asked (passed-ready _ _ _ c.in_ok-audit.ensures refl) c.empty_parts_unchecked-parts.auto.terms in
    record {
      n_le_term_limit = h.0;
      terms_in_bounds = h.1;
    }

pub returns : goal.returns
returns c =
    parts_called c.args.lhs.now c.args.rhs.now _ _ c.args.list.now c.if-list-lt-LIST_LIMIT.false _ c.in_ok-audit.ensures refl _
    c.are_lists.ensures c.if-not-are_lists.false c.empty_parts_unchecked-parts.ensures
    (undone-listed _ _ _ _ _ _ c.cut_refused_unchecked.ensures)
