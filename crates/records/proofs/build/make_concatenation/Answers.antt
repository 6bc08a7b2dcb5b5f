use Rattle.records.proofs.Refines.BuildCalls.{concat-few, concat-right, concat-unfit, concat_called}
use Rattle.records.proofs.Public.{cut-asked, call_refused, handed, passed-ready}
use Rattle.records.proofs.Refines.MakeCalls.{undone-made}
use Rattle.records.specs.View.{lent}
use borrow.Author.Rules.{rules}
use mathlib.Core.Path.{refl}
use Rattle.records.proofs.build.make_concatenation.Goals as goal

pub returns-in_err-audit : goal.returns-in_err-audit
returns-in_err-audit c =
    rw (handed _ c.from_residual.ensures.1) (call_refused _ _ _ _ _ c.in_err-audit.ensures)

pub returns-then-l-lt2 : goal.returns-then-l-lt2
returns-then-l-lt2 c =
    concat-few _ _ _ _ _ _ _ c.in_ok-audit.ensures refl _ c.if-l-lt2.true

pub make_concatenation_unchecked-r-requires : goal.make_concatenation_unchecked-r-requires
make_concatenation_unchecked-r-requires c =
    record {
      ready = passed-ready _ _ _ c.in_ok-audit.ensures refl;
      c_value = let a = c.args in
          concat-right (lent a.terms.now a.cells.now a.chars.now a.reasons.now a.keys.now) a.c a.l.now _ (search rules) c.is_list.ensures c.if-is_list.true;
    }

pub cut_refused_unchecked-requires : goal.cut_refused_unchecked-requires
cut_refused_unchecked-requires c =
    let h = cut-asked (passed-ready _ _ _ c.in_ok-audit.ensures refl) c.make_concatenation_unchecked-r.auto.terms in
    record {
      n_le_term_limit = h.0;
      terms_in_bounds = h.1;
    }

pub returns-then-is_list : goal.returns-then-is_list
returns-then-is_list c =
    concat_called _ _ _ _ _ _ _ c.in_ok-audit.ensures refl _ c.if-l-lt2.false _ c.is_list.ensures c.if-is_list.true c.make_concatenation_unchecked-r.ensures (undone-made _ _ _ _ _ c.cut_refused_unchecked.ensures)

pub returns : goal.returns
returns c =
    concat-unfit _ _ _ _ _ _ _ c.in_ok-audit.ensures refl _ c.if-l-lt2.false _ c.is_list.ensures c.if-is_list.false
