-- Terms keep their kind, first and second: through a call, and through one after the other.
use mathlib.Core.Path.{◌≡◌, refl, sym, ap, subst, ◌∙◌}
use mathlib.Core.Bool.{true}
use mathlib.Core.List.{List, ◌∷◌, ◌++◌}
use Prim.Native.Nat.{ℕ, ◌≤◌}
use native.Mathlib.Omega.{arith}
use lib.ListN.{length, length-append, get_or-append}
use Rattle.records.specs.Store.{Term, no_term, Store, term_in, within}
use Rattle.records.proofs.Lists.{within_low, within-high, within-is}
use Rattle.records.proofs.LaterStores.{Extended}
use Rattle.classes.proofs.Alike.{Like}
use Rattle.classes.proofs.MarksLater.{since, more-terms}
use Rattle.history.specs.History.{SameTerm}

pub record Keeping (ts us : List Term) : Type 0 where
  pub more : length ts ≤ length us
  pub same : (t : ℕ) → within (length ts) t ≡ true → SameTerm (term_in ts t) (term_in us t)

pub keeping_none : (ts : List Term) → Keeping ts ts
keeping_none ts = record { more = omega arith; same = λ t w. record { kind = refl; first = refl; second = refl } }

pub keeping-then : {ts us vs : List Term} → Keeping ts us → Keeping us vs → Keeping ts vs
keeping-then {ts} {us} p q = record {
  more = (let a = p.more in let b = q.more in omega arith);
  same = λ t w.
      let a = p.same t w in
      let l = p.more in
      let h = within-high (length ts) t w in
      let b = q.same t (within-is (length us) t (within_low (length ts) t w) (omega arith)) in
      record { kind = b.kind ∙ a.kind; first = b.first ∙ a.first; second = b.second ∙ a.second };
}

-- a table of the same terms
pub keeping-like : {ts us : List Term} → Like ts us → Keeping ts us
keeping-like k = record {
  more = (let e = k.long in omega arith);
  same = λ t w. record {
    kind = k.words (λ x. x.kind) (record { edges = λ y e. refl; classes = λ y c. refl }) t;
    first = k.words (λ x. x.first) (record { edges = λ y e. refl; classes = λ y c. refl }) t;
    second = k.words (λ x. x.second) (record { edges = λ y e. refl; classes = λ y c. refl }) t;
  };
}

-- terms appended
behind : (ts more : List Term) (t : ℕ) → within (length ts) t ≡ true → term_in (ts ++ more) t ≡ term_in ts t
unfolding term_in
behind ts more t w = let h = within-high (length ts) t w in get_or-append (no_term ∷ ts) more no_term t (omega arith)

pub keeping-later : {s s' : Store} → Extended s s' → Keeping s.terms s'.terms
keeping-later {s} {s'} p = subst (Keeping s.terms) (sym (more-terms p).terms) (record {
  more = (let e = length-append s.terms (since s s') in omega arith);
  same = λ t w. let e = behind s.terms (since s s') t w in record { kind = ap (λ (x : Term). x.kind) e; first = ap (λ (x : Term). x.first) e; second = ap (λ (x : Term). x.second) e };
})
