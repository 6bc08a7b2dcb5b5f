use Rattle.records.proofs.Refines.BuildCalls.{length-unfit, length_called}
use Rattle.records.proofs.Public.{cut-asked, call_refused, handed, passed-ready}
use Rattle.records.proofs.Refines.MakeCalls.{undone-made}
use mathlib.Core.Path.{refl, sym, ◌∙◌}
use Rattle.records.proofs.build.make_length.Goals as goal

pub returns-in_err-audit : goal.returns-in_err-audit
returns-in_err-audit c =
    rw (handed _ c.from_residual.ensures.1) (call_refused _ _ _ _ _ c.in_err-audit.ensures)

pub make_length_unchecked-r-requires : goal.make_length_unchecked-r-requires
make_length_unchecked-r-requires c =
    record {
      ready = passed-ready _ _ _ c.in_ok-audit.ensures refl;
      c_value = sym c.is_string.ensures ∙ c.if-is_string.true;
    }

pub cut_refused_unchecked-requires : goal.cut_refused_unchecked-requires
cut_refused_unchecked-requires c =
    let h = cut-asked (passed-ready _ _ _ c.in_ok-audit.ensures refl) c.make_length_unchecked-r.auto.terms in
    record {
      n_le_term_limit = h.0;
      terms_in_bounds = h.1;
    }

pub returns-then-is_string : goal.returns-then-is_string
returns-then-is_string c =
    length_called _ _ _ _ _ _ _ c.in_ok-audit.ensures refl _ _ c.is_string.ensures c.if-is_string.true c.make_length_unchecked-r.ensures (undone-made _ _ _ _ _ c.cut_refused_unchecked.ensures)

pub returns : goal.returns
returns c =
    length-unfit _ _ _ _ _ _ _ c.in_ok-audit.ensures refl _ _ c.is_string.ensures c.if-is_string.false
