-- Cutting the index: heads, then ninth words, one after the other; a word that is none of them stays.
use mathlib.Core.Path.{◌≡◌, refl, sym, ap, ◌∙◌}
use mathlib.Core.Bool.{true}
use mathlib.Core.List.{List}
use mathlib.Core.Logic.{⊎_elim}
use Prim.Native.Nat.{ℕ, zero, suc, ◌+◌, ◌-◌, ◌≤◌, ◌<◌}
use native.Mathlib.Nat.{eq-or-lt_of_le, le_of_suc-le-suc}
use native.Mathlib.Numerals.{add-one}
use native.Mathlib.Omega.{arith}
use lib.ListN.{length, get_or, set, length-set}
use lib.Seq.{get_or-set_same, get_or-set_other, set-get_or}
use Rattle.records.specs.Store.{within}
use Rattle.records.specs.View.{buckets, term_place, term_words, head_at, next_at, term_at, zero_term}
use Rattle.records.specs.Working.Indexing.{cut_at, Cut}
use Rattle.records.proofs.Lists.{within_low, within-high, within-is}
use Rattle.records.proofs.IndexLaws.{cut_small, cut_large}

-- ONE WORD

module _ (l : List ℕ) (i n x : ℕ) (is : x ≡ get_or l i 0) where
  pub word_cut : n < x → set l i 0 ≡ set l i (cut_at n (get_or l i 0))
  word_cut h = ap (set l i) (sym (cut_large n (get_or l i 0) (omega arith)))

  pub word-left : x ≤ n → l ≡ set l i (cut_at n (get_or l i 0))
  word-left h = sym (ap (set l i) (cut_small n (get_or l i 0) (omega arith)) ∙ set-get_or l i 0)

-- WORD BY WORD

-- the heads below b and the ninth words of t terms are cut
pub record Cutting (l l' : List ℕ) (n b t : ℕ) : Type 0 where
  pub long : length l' ≡ length l
  pub heads : (a : ℕ) → a < b → head_at l' a ≡ cut_at n (head_at l a)
  pub nexts : (u : ℕ) → within t u ≡ true → next_at l' u ≡ cut_at n (next_at l u)
  pub kept : (i : ℕ) → b ≤ i → ((u : ℕ) → within t u ≡ true → i ≡ term_place u 8 → ⊥) → get_or l' i 0 ≡ get_or l i 0

pub cutting_none : (l : List ℕ) (n : ℕ) → Cutting l l n 0 0
cutting_none l n = record {
  long = refl;
  heads = λ a h. absurd (omega arith);
  nexts = λ u w. let p = within_low 0 u w in let q = within-high 0 u w in absurd (omega arith);
  kept = λ i h d. refl;
}

-- one word more: x is what is put
module _ (l l' : List ℕ) (n : ℕ) (room : term_words n ≤ length l) (x : ℕ) where
  head_put : (b : ℕ) → Cutting l l' n b 0 → b < buckets → x ≡ cut_at n (get_or l' b 0) → Cutting l (set l' b x) n (suc b) 0
  head_put b c h e = record {
    long = length-set l' b x ∙ c.long;
    heads = λ a k. ⊎_elim (λ q. rw q now) (λ q. get_or-set_other l' b a x 0 (λ z. omega arith) ∙ c.heads a q) (eq-or-lt_of_le (le_of_suc-le-suc k));
    nexts = λ u w. let p = within_low 0 u w in let q = within-high 0 u w in absurd (omega arith);
    kept = λ i k d. get_or-set_other l' b i x 0 (λ z. omega arith) ∙ c.kept i (omega arith) d;
  }
    where
      now : head_at (set l' b x) b ≡ cut_at n (head_at l b)
      now = let m = c.long in get_or-set_same l' b x 0 (omega arith) ∙ e ∙ ap (cut_at n) (c.kept b (omega arith) (λ u w z. omega arith))

  ninth-put : (t : ℕ) → Cutting l l' n 0 t → t < n → x ≡ cut_at n (get_or l' (term_place (suc t) 8) 0) → Cutting l (set l' (term_place (suc t) 8) x) n 0 (suc t)
  ninth-put t c h e = record {
    long = length-set l' (term_place (suc t) 8) x ∙ c.long;
    heads = λ a k. absurd (omega arith);
    nexts = λ u w. ⊎_elim (λ q. rw q now) (λ q. older u w (le_of_suc-le-suc q)) (eq-or-lt_of_le (within-high (suc t) u w));
    kept = λ i k d. get_or-set_other l' (term_place (suc t) 8) i x 0 (d (suc t) (within-is (suc t) (suc t) (omega arith) (omega arith))) ∙ c.kept i k (λ u w. d u (wider u w));
  }
    where
      wider : (u : ℕ) → within t u ≡ true → within (suc t) u ≡ true
      wider u w = let q = within-high t u w in within-is (suc t) u (within_low t u w) (omega arith)

      now : next_at (set l' (term_place (suc t) 8) x) (suc t) ≡ cut_at n (next_at l (suc t))
      now =
          let m = c.long in
          get_or-set_same l' (term_place (suc t) 8) x 0 (omega arith) ∙ e
          ∙ ap (cut_at n) (c.kept (term_place (suc t) 8) (omega arith) (λ u w z. let q = within-high t u w in omega arith))

      older : (u : ℕ) → within (suc t) u ≡ true → u ≤ t → next_at (set l' (term_place (suc t) 8) x) u ≡ cut_at n (next_at l u)
      older u w q = get_or-set_other l' (term_place (suc t) 8) (term_place u 8) x 0 (λ z. omega arith) ∙ c.nexts u (within-is t u (within_low (suc t) u w) q)

module _ (l l' l'' : List ℕ) (n : ℕ) where
  pub cutting_head : (b : ℕ) → term_words n ≤ length l → Cutting l l' n b 0 → b < buckets → l'' ≡ set l' b (cut_at n (get_or l' b 0)) → Cutting l l'' n (b + 1) 0
  cutting_head b r c h e = rw (e, add-one b) (head_put l l' n r (cut_at n (get_or l' b 0)) b c h refl)

  pub cutting_ninth : (t : ℕ) → term_words n ≤ length l → Cutting l l' n 0 (t - 1) → 0 < t → t ≤ n
      → l'' ≡ set l' (term_place t 8) (cut_at n (get_or l' (term_place t 8) 0)) → Cutting l l'' n 0 t
  cutting_ninth zero r c z h e = absurd (omega arith)
  cutting_ninth (suc t) r c z h e =
      let k : suc t - 1 ≡ t = omega arith in
      rw e (ninth-put l l' n r (cut_at n (get_or l' (term_place (suc t) 8) 0)) t (rw k at c) h refl)

-- first the heads, then the ninth words
cutting_then : (l l₁ l' : List ℕ) (n : ℕ) → Cutting l l₁ n buckets 0 → Cutting l₁ l' n 0 n → Cutting l l' n buckets n
cutting_then l l₁ l' n p q = record {
  long = q.long ∙ p.long;
  heads = λ a h. q.kept a (omega arith) (λ u w z. omega arith) ∙ p.heads a h;
  nexts = λ u w. q.nexts u w ∙ ap (cut_at n) (p.kept (term_place u 8) (omega arith) (λ v y z. let i = within_low 0 v y in let j = within-high 0 v y in omega arith));
  kept = λ i h d. q.kept i (omega arith) d ∙ p.kept i h (λ v y z. let i = within_low 0 v y in let j = within-high 0 v y in omega arith);
}

-- no other word of a record is a ninth word
module _ (l l' : List ℕ) (n : ℕ) (c : Cutting l l' n buckets n) where
  eight : (t k : ℕ) → k < 8 → get_or l' (term_place t k) 0 ≡ get_or l (term_place t k) 0
  eight t k h = c.kept (term_place t k) (omega arith) (λ u w z. omega arith)

  term-left : (t : ℕ) → term_at l' t ≡ term_at l t
  term-left t =
      let a0 = eight t 0 (omega arith) in
      let a1 = eight t 1 (omega arith) in
      let a2 = eight t 2 (omega arith) in
      let a3 = eight t 3 (omega arith) in
      let a4 = eight t 4 (omega arith) in
      let a5 = eight t 5 (omega arith) in
      let a6 = eight t 6 (omega arith) in
      let a7 = eight t 7 (omega arith) in cc

  zero_left : zero_term l' ≡ zero_term l
  unfolding zero_term
  zero_left =
      let p = term-left 0 in
      let q : next_at l' 0 ≡ next_at l 0 = c.kept (term_place 0 8) (omega arith) (λ u w z. let k = within_low n u w in omega arith) in cc

  cutting_done : Cut l l' n
  cutting_done = record { long = c.long; zero = zero_left; terms = term-left; heads = c.heads; nexts = c.nexts }

pub cut-done : (l l₁ l' : List ℕ) (n b t : ℕ) → Cutting l l₁ n b 0 → b ≤ buckets → buckets ≤ b → Cutting l₁ l' n 0 t → t ≤ n → n ≤ t → Cut l l' n
cut-done l l₁ l' n b t p h k q i j =
    let e : b ≡ buckets = omega arith in
    let f : t ≡ n = omega arith in
    cutting_done l l' n (cutting_then l l₁ l' n (rw e at p) (rw f at q))
