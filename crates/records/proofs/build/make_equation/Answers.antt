use Rattle.records.proofs.Refines.BuildCalls.{equation-right, equation-unfit, equation_called}
use Rattle.records.proofs.Public.{cut-asked, call_refused, handed, passed-ready}
use Rattle.records.proofs.Refines.MakeCalls.{undone-made}
use Rattle.records.specs.View.{lent}
use mathlib.Core.Path.{refl}
use Rattle.records.proofs.build.make_equation.Goals as goal

pub returns-in_err-audit : goal.returns-in_err-audit
returns-in_err-audit c =
    rw (handed _ c.from_residual.ensures.1) (call_refused _ _ _ _ _ c.in_err-audit.ensures)

pub make_equation_unchecked-r-requires : goal.make_equation_unchecked-r-requires
make_equation_unchecked-r-requires c =
    record {
      ready = passed-ready _ _ _ c.in_ok-audit.ensures refl;
      c_value = let a = c.args in equation-right (lent a.terms.now a.cells.now a.chars.now a.reasons.now a.keys.now) a.c a.a a.b _ c.is_equatable.ensures c.if-is_equatable.true;
    }

pub cut_refused_unchecked-requires : goal.cut_refused_unchecked-requires
cut_refused_unchecked-requires c =
    let h = cut-asked (passed-ready _ _ _ c.in_ok-audit.ensures refl) c.make_equation_unchecked-r.auto.terms in
    record {
      n_le_term_limit = h.0;
      terms_in_bounds = h.1;
    }

pub returns-then-is_equatable : goal.returns-then-is_equatable
returns-then-is_equatable c =
    equation_called _ _ _ _ _ _ _ c.in_ok-audit.ensures refl _ _ _ c.is_equatable.ensures c.if-is_equatable.true c.make_equation_unchecked-r.ensures (undone-made _ _ _ _ _ c.cut_refused_unchecked.ensures)

pub returns : goal.returns
returns c =
    equation-unfit _ _ _ _ _ _ _ c.in_ok-audit.ensures refl _ _ _ c.is_equatable.ensures c.if-is_equatable.false
