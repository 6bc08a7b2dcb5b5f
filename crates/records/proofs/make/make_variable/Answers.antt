use Rattle.records.proofs.Refines.MakeCalls.{right_name, undone-made, variable-empty, variable-unfit, variable_called}
use Rattle.records.proofs.Public.{cut-asked, call_refused, handed, passed-ready}
use mathlib.Core.Path.{refl}
use Rattle.records.proofs.make.make_variable.Goals as goal

pub returns-in_err-audit : goal.returns-in_err-audit
returns-in_err-audit c =
    rw (handed _ c.from_residual.ensures.1) (call_refused _ _ _ _ _ c.in_err-audit.ensures)

pub returns-then-w-eq0 : goal.returns-then-w-eq0
returns-then-w-eq0 c =
    variable-empty c.args.w.now _ _ _ c.in_ok-audit.ensures refl c.if-w-eq0.true

pub returns-then-not-chars_ok : goal.returns-then-not-chars_ok
returns-then-not-chars_ok c =
    variable-unfit c.args.w.now _ _ _ c.in_ok-audit.ensures refl _ c.chars_ok.ensures c.if-w-eq0.false c.if-not-chars_ok.true

pub make_variable_unchecked-r-requires : goal.make_variable_unchecked-r-requires
make_variable_unchecked-r-requires c =
    record {
      ready = passed-ready _ _ _ c.in_ok-audit.ensures refl;
      c_value = right_name c.args.w.now _ c.chars_ok.ensures c.if-w-eq0.false c.if-not-chars_ok.false;
    }

pub cut_refused_unchecked-requires : goal.cut_refused_unchecked-requires
cut_refused_unchecked-requires c =
    let h = cut-asked (passed-ready _ _ _ c.in_ok-audit.ensures refl) c.make_variable_unchecked-r.auto.terms in
    record {
      n_le_term_limit = h.0;
      terms_in_bounds = h.1;
    }

pub returns : goal.returns
returns c =
    variable_called c.args.w.now _ _ _ c.in_ok-audit.ensures refl _ c.chars_ok.ensures c.if-w-eq0.false c.if-not-chars_ok.false
    c.make_variable_unchecked-r.ensures (undone-made _ _ _ _ _ c.cut_refused_unchecked.ensures)
