-- Each way through `find` and `explain`.
use mathlib.Core.Path.{◌≡◌, sym, ap, subst, ◌∙◌}
use mathlib.Core.Logic.{inl}
use mathlib.Core.Bool.{Bool, true, false, not, ◌&&◌}
use Prim.Native.Nat.{ℕ}
use native.Mathlib.Omega.{arith}
use borrow.Author.Tests.{not-true, not-false}
use Rattle.records.specs.declared.State.{State}
use Rattle.records.specs.declared.refusal.Refusal.{Refusal}
use Rattle.records.specs.Refusal.{number}
use Rattle.records.specs.Store.{Store, Out, ok, stop, is_string, same_class, within, root_in, class_up, term_in}
use Rattle.records.specs.View.{Lent, store_of, terms_view}
use Rattle.records.specs.Lists.{Every}
use Rattle.records.specs.Rules.{audit}
use Rattle.records.specs.Working.Audited.{Audited, Ready, Closed}
use Rattle.records.specs.Calls.{Public, writes_nothing, call}
use Rattle.records.specs.Working.Doing.{Working}
use lib.Seq.{drop-append_seam}
use Rattle.records.proofs.Lists.{both_left, both_right}
use Rattle.records.proofs.LaterStores.{added-once}
use Rattle.records.proofs.Passed.{ready_of}
use Rattle.records.proofs.Doing.{working_same}
use Rattle.records.proofs.Outcomes.{refused-by}
use Rattle.records.proofs.Public.{call_refused, call-unfit, call_still, call_works, audit-idle}
use Rattle.records.proofs.Grown.{string-term}
use Rattle.records.proofs.Climbs.{term-within, ready_roots}
use Rattle.engine.specs.Explain.{find, find_arguments, explain, explain_arguments}
use Rattle.engine.specs.Calls.{PublicExplain}
use Rattle.engine.specs.Meaning.{added_to, Labels}
use Rattle.engine.proofs.Sound.{Gave, explain_gives, explain_sound, explain_stops}

-- a string term has a root
pub string_root : {m : Lent} {c : State} {x : Bool} (t : ℕ) → Ready m c → x ≡ is_string (store_of m c) t → x ≡ true
    → (within c.terms t ≡ true) × Closed (class_up (terms_view m.terms c.terms)) c.terms
string_root {m} {c} t d e h = (term-within m c t (string-term (store_of m c) t (sym e ∙ h)), ready_roots m c d.audited.classed)

-- FIND

module _ (m : Lent) (c : State) (t k : ℕ) (v : k ≡ audit m c) where
  module _ (z : k ≡ 0) (b : Bool) (e : b ≡ within 3 (term_in (terms_view m.terms c.terms) t).kind) where
    pub find-unfit : not b ≡ true → Public (call (find_arguments t) (find t) m c) m m c (stop 5)
    find-unfit h = call-unfit (find_arguments t) (find t) m c k v z b e (not-true b h)

    pub find-here : not b ≡ false → (within c.terms t ≡ true) × Closed (class_up (terms_view m.terms c.terms)) c.terms
    find-here h = string_root t (ready_of m c (sym v ∙ z)) e (not-false b h)

    pub find-gives : not b ≡ false → (r : ℕ) → r ≡ root_in (terms_view m.terms c.terms) t → Public (call (find_arguments t) (find t) m c) m m c (ok (store_of m c) r)
    unfolding find
    find-gives h r q =
        call_still (find_arguments t) (find t) m c k v z b e (not-false b h)
        (working_same (ready_of m c (sym v ∙ z)) (ap (ok (store_of m c)) (sym q)))

-- EXPLAIN

-- the reasons added, each with its edge
labelled : (s s' : Store) → {a b : ℕ} → Gave s s' a b → Every (Labels s) (added_to s s')
labelled s s' g =
    rw (ap (λ (x : Store). x.reasons) g.added.is, drop-append_seam s.reasons g.added.more)
    g.causes

-- the audit's refusal is handed on
pub explain_unready : (m : Lent) (c : State) (a b : ℕ) (u : Refusal) → number u ≡ audit m c → PublicExplain a b m m c (stop (number u))
explain_unready m c a b u v = record {
  is = call_refused (explain_arguments a b) (explain a b) m c u v;
  worth = λ s' e. let y : ◌≡◌ {A = ℕ} 0 1 = cc in absurd (omega arith);
  once = λ s' e. let y : ◌≡◌ {A = ℕ} 0 1 = cc in absurd (omega arith);
  edges = λ s' e. let y : ◌≡◌ {A = ℕ} 0 1 = cc in absurd (omega arith);
  full = λ j e h. let y : number u ≡ j = cc in absurd (h (subst writes_nothing y (audit-idle m c (number u) v)));
}

module _ (m : Lent) (c : State) (a b k : ℕ) (v : k ≡ audit m c) where
  module _ (z : k ≡ 0) (x : Bool) (e : x ≡ explain_arguments a b (store_of m c)) where
    pub explain-unfit : not x ≡ true → PublicExplain a b m m c (stop 5)
    explain-unfit h = record {
      is = call-unfit (explain_arguments a b) (explain a b) m c k v z x e (not-true x h);
      worth = λ s' i. let y : ◌≡◌ {A = ℕ} 0 1 = cc in absurd (omega arith);
      once = λ s' i. let y : ◌≡◌ {A = ℕ} 0 1 = cc in absurd (omega arith);
      edges = λ s' i. let y : ◌≡◌ {A = ℕ} 0 1 = cc in absurd (omega arith);
      full = λ j i l. let y : 5 ≡ j = cc in absurd (l (inl (omega arith)));
    }

    pub explain-fit : not x ≡ false → (Ready m c) × (explain_arguments a b (store_of m c) ≡ true)
    explain-fit h = (ready_of m c (sym v ∙ z), sym e ∙ not-false x h)

    pub explain_called : not x ≡ false → (m' : Lent) (r : Out (Unit {0})) → m'.terms ≡ m.terms → Working (explain a b) m m' c r → PublicExplain a b m m' c r
    explain_called h m' r same w = record {
      is = call_works (explain_arguments a b) (explain a b) m c k v z x e (not-false x h) (λ j n. refused-by 7 (omega arith) (omega arith) (explain_stops s audited a b one two three j n)) same w;
      worth = λ s' i. explain_sound s audited a b one two three s' tt (w.says ∙ i);
      once = λ s' i. added-once (explain_gives s audited a b one two three s' tt (w.says ∙ i)).added;
      edges = λ s' i. labelled s s' (explain_gives s audited a b one two three s' tt (w.says ∙ i));
      full = λ j i l. explain_stops s audited a b one two three j (w.says ∙ i);
    }
      where
        s : Store
        s = store_of m c

        audited : Audited s
        audited = (ready_of m c (sym v ∙ z)).audited

        all_three : explain_arguments a b s ≡ true
        all_three = sym e ∙ not-false x h

        one : is_string s a ≡ true
        one = both_left _ _ (both_left (is_string s a && is_string s b) _ all_three)

        two : is_string s b ≡ true
        two = both_right (is_string s a) _ (both_left (is_string s a && is_string s b) _ all_three)

        three : same_class s a b ≡ true
        three = both_right (is_string s a && is_string s b) _ all_three
