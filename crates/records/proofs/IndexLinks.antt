-- The audit of the index in one pass: each term stands in the word that its bucket has come to, and each chain ends there, exactly where every head
-- and every ninth word is that of the terms.
use mathlib.Core.Path.{◌≡◌, refl, sym, ap, ◌∙◌}
use mathlib.Core.Bool.{Bool, true, ◌&&◌}
use mathlib.Core.List.{List}
use Prim.Native.Nat.{ℕ, zero, suc, ◌≤◌, ◌<◌}
use native.Mathlib.Omega.{arith}
use lib.Dec.{eqb, ltb}
use borrow.Author.Tests.{eqb-true, eq-eqb, ne_eqb, ltb-true, ltb-false, lt-ltb}
use Rattle.records.specs.Lists.{all_below}
use Rattle.records.specs.View.{buckets, head_at, next_at}
use Rattle.records.specs.Index.{next_in, IndexOf}
use Rattle.records.specs.Working.Indexing.{word_after, last_in, links_rule}
use Rattle.records.proofs.Lists.{both_left, both_right, both_true, clash, decide, same_test, within_low, within-high, within-is, below_at, below_all, last-low, last-passes, last-above}
use Rattle.records.proofs.IndexNexts.{Lowest, nothing, lowest, next-lowest, next_is}
use Rattle.records.proofs.IndexSays.{index_test, test_passes, test_passed}

-- THE LAST TERM OF A BUCKET

-- u is the highest of n terms that is in bucket b, or 0
pub record Highest (f : ℕ → ℕ) (n b u : ℕ) : Type 0 where
  pub inside : u ≤ n
  pub here : 0 < u → f u ≡ b
  pub none_above : (v : ℕ) → u < v → v ≤ n → f v ≡ b → ⊥

module _ (f : ℕ → ℕ) (n b : ℕ) where
  abbrev sought : ℕ → Bool
  sought u = ltb 0 u && eqb (f u) b

  pub last-highest : Highest f n b (last_in f n b)
  last-highest = record {
    inside = let h = last-low sought (suc n) (omega arith) in omega arith;
    here = λ h. eqb-true _ b (both_right (ltb 0 (last_in f n b)) _ (last-passes sought (suc n) (λ z. omega arith)));
    none_above = λ v h k e. clash (both_true (ltb 0 v) _ (lt-ltb 0 v (omega arith)) (eq-eqb (f v) b e)) (last-above sought (suc n) v h (omega arith));
  }

  highest-one : (u v : ℕ) → Highest f n b u → Highest f n b v → u ≡ v
  highest-one u v p q =
      let i = p.inside in
      let j = q.inside in
      decide (ltb u v) (λ e. let h = ltb-true u v e in absurd (p.none_above v h j (q.here (omega arith))))
      (λ e. decide (ltb v u) (λ d. let h = ltb-true v u d in absurd (q.none_above u h i (p.here (omega arith)))) (λ d. let h = ltb-false u v e in let k = ltb-false v u d in omega arith))

  last-is : (u : ℕ) → Highest f n b u → last_in f n b ≡ u
  last-is u p = highest-one (last_in f n b) u last-highest p

-- THE WORD AFTER

module _ (l : List ℕ) (b u : ℕ) where
  pub after_none : u ≡ 0 → word_after l b u ≡ head_at l b
  after_none e = rw (eq-eqb u 0 e)

  pub after-some : (u ≡ 0 → ⊥) → word_after l b u ≡ next_at l u
  after-some d = rw (ne_eqb u 0 d)

module _ (f : ℕ → ℕ) (n : ℕ) (l : List ℕ) where
  -- the test of a term, and of the end of a chain
  abbrev pub link_test : ℕ → Bool
  link_test i = eqb (word_after l (f (suc i)) (last_in f i (f (suc i)))) (suc i)

  abbrev pub end_test : ℕ → Bool
  end_test b = eqb (word_after l b (last_in f n b)) 0

  -- OF AN INDEX

  module _ (i : IndexOf f n l) where
    after_next : (b u : ℕ) → b < buckets → u ≤ n → (0 < u → f u ≡ b) → word_after l b u ≡ next_in f n u b
    after_next b zero h k e = after_none l b 0 refl ∙ i.heads b h
    after_next b (suc u) h k e = after-some l b (suc u) (λ z. omega arith) ∙ i.nexts (suc u) (within-is n (suc u) (omega arith) k) ∙ ap (next_in f n (suc u)) (e (omega arith))

    index_links : ((t : ℕ) → f t < buckets) → links_rule l f n ≡ true
    index_links small = below_all link_test n (λ j h.
        let p = last-highest f j (f (suc j)) in
        let q = p.inside in
        eq-eqb _ (suc j) (after_next (f (suc j)) (last_in f j (f (suc j))) (small (suc j)) (omega arith) p.here
        ∙ sym (next_is f n (last_in f j (f (suc j))) (f (suc j)) (suc j) (lowest (omega arith) (omega arith) refl (λ v a c. p.none_above v a (omega arith))))))

    index-ends : all_below end_test buckets ≡ true
    index-ends = below_all end_test buckets (λ b h.
        let p = last-highest f n b in
        eq-eqb _ 0 (after_next b (last_in f n b) h p.inside p.here ∙ sym (next_is f n (last_in f n b) b 0 (nothing refl p.none_above))))

  -- TO AN INDEX

  module _ (links : links_rule l f n ≡ true) (ends : all_below end_test buckets ≡ true) where
    -- the word after u, which is none or in bucket b
    after_is : (b u x : ℕ) → b < buckets → u ≤ n → (0 < u → f u ≡ b) → Lowest f n u b x → word_after l b u ≡ x
    after_is b u x h k e (nothing z g) =
        ap (word_after l b) (sym (last-is f n b u (record { inside = k; here = e; none_above = g })))
        ∙ eqb-true _ 0 (below_at end_test buckets ends b h) ∙ sym z
    after_is b u zero h k e (lowest a c q g) = absurd (omega arith)
    after_is b u (suc j) h k e (lowest a c q g) =
        let p : last_in f j b ≡ u = last-is f j b u (record { inside = omega arith; here = e; none_above = λ v a' c'. g v a' (omega arith) }) in
        let t = eqb-true _ (suc j) (below_at link_test n links j c) in
        rw (q, p) at t

    links_index : ((t : ℕ) → f t < buckets) → IndexOf f n l
    links_index small = record {
      heads = λ b h. sym (after_none l b 0 refl) ∙ after_is b 0 (next_in f n 0 b) h (omega arith) (λ z. absurd (omega arith)) (next-lowest f n 0 b);
      nexts = λ t w.
          let a = within_low n t w in
          sym (after-some l (f t) t (λ z. omega arith))
          ∙ after_is (f t) t (next_in f n t (f t)) (small t) (within-high n t w) (λ z. refl) (next-lowest f n t (f t));
    }

  -- the two audits are one
  pub links_are : ((t : ℕ) → f t < buckets) → (links_rule l f n && all_below end_test buckets) ≡ index_test f n l
  links_are small = same_test _ _
      (λ e. test_passes f n l (links_index (both_left (links_rule l f n) _ e) (both_right (links_rule l f n) _ e) small))
      (λ e. let i = test_passed f n l e in both_true _ _ (index_links i small) (index-ends i))
