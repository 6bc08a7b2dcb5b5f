-- Each way through `nf_equal` and `nf_equal_explain`.
use mathlib.Core.Path.{◌≡◌, refl, sym, ap, subst, ◌∙◌}
use mathlib.Core.Bool.{Bool, true, false, not, ◌&&◌}
use mathlib.Core.List.{List, [], ◌∷◌}
use mathlib.Core.Logic.{inl}
use Prim.Native.Nat.{ℕ}
use native.Mathlib.Omega.{arith}
use lib.ListN.{length}
use borrow.Author.Tests.{not-true, not-false, eqb-true}
use Rattle.records.specs.declared.State.{State}
use Rattle.records.specs.Lists.{all}
use Rattle.records.specs.Store.{Out, ok, stop, is_string}
use Rattle.records.specs.View.{Lent, store_of, read_in}
use Rattle.records.specs.Rules.{audit, is_list}
use Rattle.records.specs.Working.Audited.{Ready}
use Rattle.records.specs.Calls.{Public, writes_nothing, call}
use Rattle.records.specs.Working.Doing.{Working}
use Rattle.records.proofs.Lists.{both_left, both_right}
use Rattle.records.proofs.Passed.{ready_of}
use Rattle.records.proofs.Doing.{working_same}
use Rattle.records.proofs.Outcomes.{refused-by}
use Rattle.records.proofs.Public.{call_unready, call-unfit, call_still, call_works, audit-idle}
use Rattle.records.proofs.Works.{stop-not}
use Rattle.records.proofs.ListLaws.{list-strings}
use Rattle.sides.specs.Wordeq.{same, nf_equal, nf_explain, nf_arguments}
use Rattle.sides.specs.Working.Stripping.{Readable}
use Rattle.wordeq.specs.Calls.{equal_arguments, equal_lists, PublicEqualExplain}
use Rattle.sides.proofs.Equal.{explain-equal-gives, explain-equal-sound, explain-equal-stops}
use Rattle.records.proofs.LaterStores.{added-once}

-- terms and characters alone give the same test
equal-read : (m : Lent) (c : State) (l r : List ℕ) → nf_equal (read_in m.terms m.chars c) l r ≡ nf_equal (store_of m c) l r
unfolding nf_equal same
equal-read m c [] [] = refl
equal-read m c [] (b ∷ r) = refl
equal-read m c (a ∷ l) [] = refl
equal-read m c (a ∷ l) (b ∷ r) = ap (λ (x : Bool). same (store_of m c) a b && x) (equal-read m c l r)

-- NF_EQUAL

module _ (m : Lent) (c : State) (l r : List ℕ) (k : ℕ) (v : k ≡ audit m c) where
  pub equal_unready : (k ≡ 0 → ⊥) → Public (call (equal_arguments l r) (equal_lists l r) m c) m m c (stop k)
  equal_unready d = call_unready (equal_arguments l r) (equal_lists l r) m c k v d

  module _ (z : k ≡ 0) (b : Bool) (e : b ≡ equal_arguments l r (store_of m c)) where
    pub equal-unfit : not b ≡ true → Public (call (equal_arguments l r) (equal_lists l r) m c) m m c (stop 5)
    equal-unfit h = call-unfit (equal_arguments l r) (equal_lists l r) m c k v z b e (not-true b h)

    module _ (h : not b ≡ false) where
      both : equal_arguments l r (store_of m c) ≡ true
      both = sym e ∙ not-false b h

      pub equal_readable : Readable m.terms m.chars c
      equal_readable = record { cells = m.cells; reasons = m.reasons; keys = m.keys; ready = ready_of m c (sym v ∙ z) }

      pub equal-left : all (is_string (read_in m.terms m.chars c)) l ≡ true
      equal-left = list-strings (store_of m c) l (both_left (is_list (store_of m c) l) _ both)

      pub equal-right : all (is_string (read_in m.terms m.chars c)) r ≡ true
      equal-right = list-strings (store_of m c) r (both_right (is_list (store_of m c) l) _ both)

      pub equal-gives : (x : Bool) → x ≡ nf_equal (read_in m.terms m.chars c) l r → Public (call (equal_arguments l r) (equal_lists l r) m c) m m c (ok (store_of m c) x)
      unfolding equal_lists
      equal-gives x q =
          call_still (equal_arguments l r) (equal_lists l r) m c k v z b e (not-false b h)
          (working_same (ready_of m c (sym v ∙ z)) (ap (ok (store_of m c)) (sym (q ∙ equal-read m c l r))))

-- NF_EQUAL_EXPLAIN

module _ (m : Lent) (c : State) (l r : List ℕ) (k : ℕ) (v : k ≡ audit m c) where
  pub explain_unready : (k ≡ 0 → ⊥) → PublicEqualExplain l r m m c (stop k)
  explain_unready d = record {
    is = call_unready (nf_arguments l r) (nf_explain l r) m c k v d;
    worth = λ s' e. stop-not e;
    once = λ s' e. stop-not e;
    full = λ j e h. let y : k ≡ j = cc in absurd (h (subst writes_nothing y (audit-idle m c k v)));
  }

  module _ (z : k ≡ 0) (b : Bool) (e : b ≡ nf_arguments l r (store_of m c)) where
    pub explain-unfit : not b ≡ true → PublicEqualExplain l r m m c (stop 5)
    explain-unfit h = record {
      is = call-unfit (nf_arguments l r) (nf_explain l r) m c k v z b e (not-true b h);
      worth = λ s' i. stop-not i;
      once = λ s' i. stop-not i;
      full = λ j i q. let y : 5 ≡ j = cc in absurd (q (inl (omega arith)));
    }

    module _ (h : not b ≡ false) where
      fit : nf_arguments l r (store_of m c) ≡ true
      fit = sym e ∙ not-false b h

      lists : equal_arguments l r (store_of m c) ≡ true
      lists = both_left (equal_arguments l r (store_of m c)) _ fit

      pub explain-ready : Ready m c
      explain-ready = ready_of m c (sym v ∙ z)

      pub explain-left : all (is_string (store_of m c)) l ≡ true
      explain-left = list-strings (store_of m c) l (both_left (is_list (store_of m c) l) _ lists)

      pub explain-right : all (is_string (store_of m c)) r ≡ true
      explain-right = list-strings (store_of m c) r (both_right (is_list (store_of m c) l) _ lists)

      pub explain-lengths : length l ≡ length r
      explain-lengths = eqb-true (length l) (length r) (both_right (equal_arguments l r (store_of m c)) _ fit)

      pub explain_called : (m' : Lent) (o : Out (Unit {0})) → m'.terms ≡ m.terms → Working (nf_explain l r) m m' c o → PublicEqualExplain l r m m' c o
      explain_called m' o same w = record {
        is = call_works (nf_arguments l r) (nf_explain l r) m c k v z b e (not-false b h) (λ j n. refused-by 7 (omega arith) (omega arith) (seven j n)) same w;
        worth = λ s' i. explain-equal-sound l r (store_of m c) explain-ready.audited explain-left explain-right s' tt (w.says ∙ i);
        once = λ s' i. added-once (explain-equal-gives l r (store_of m c) explain-ready.audited explain-left explain-right s' tt (w.says ∙ i)).added;
        full = λ j i q. seven j (w.says ∙ i);
      }
        where
          seven : (j : ℕ) → nf_explain l r (store_of m c) ≡ stop j → j ≡ 7
          seven j n = explain-equal-stops l r (store_of m c) explain-ready.audited explain-left explain-right j n
