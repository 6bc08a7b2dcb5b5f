use Rattle.records.proofs.Refines.MakeCalls.{right, undone-made, constant-unfit, constant_called}
use Rattle.records.proofs.Public.{cut-asked, call_refused, handed, passed-ready}
use mathlib.Core.Path.{refl}
use Rattle.records.proofs.make.make_constant.Goals as goal

pub returns-in_err-audit : goal.returns-in_err-audit
returns-in_err-audit c =
    rw (handed _ c.from_residual.ensures.1) (call_refused _ _ _ _ _ c.in_err-audit.ensures)

pub returns-then-not-chars_ok : goal.returns-then-not-chars_ok
returns-then-not-chars_ok c =
    constant-unfit c.args.w.now _ _ _ c.in_ok-audit.ensures refl _ c.chars_ok.ensures c.if-not-chars_ok.true

pub make_constant_unchecked-r-requires : goal.make_constant_unchecked-r-requires
make_constant_unchecked-r-requires c =
    record {
      ready = passed-ready _ _ _ c.in_ok-audit.ensures refl;
      c_value = right _ _ c.chars_ok.ensures c.if-not-chars_ok.false;
    }

pub cut_refused_unchecked-requires : goal.cut_refused_unchecked-requires
cut_refused_unchecked-requires c =
    let h = cut-asked (passed-ready _ _ _ c.in_ok-audit.ensures refl) c.make_constant_unchecked-r.auto.terms in
    record {
      n_le_term_limit = h.0;
      terms_in_bounds = h.1;
    }

pub returns : goal.returns
returns c =
    constant_called c.args.w.now _ _ _ c.in_ok-audit.ensures refl _ c.chars_ok.ensures c.if-not-chars_ok.false
    c.make_constant_unchecked-r.ensures (undone-made _ _ _ _ _ c.cut_refused_unchecked.ensures)
