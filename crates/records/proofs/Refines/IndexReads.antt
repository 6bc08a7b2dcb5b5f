-- Reading the links of the index: the last term of each bucket that was met, and the test of each term and of each chain's end.
use mathlib.Core.Path.{◌≡◌, refl, sym, ap, ◌∙◌}
use mathlib.Core.Bool.{Bool, true, false, ◌&&◌}
use mathlib.Core.List.{List}
use Prim.Native.Nat.{ℕ, zero, suc, ◌+◌, ◌≤◌, ◌<◌}
use native.Mathlib.Numerals.{add-one}
use native.Mathlib.Omega.{arith}
use lib.ListN.{length, get_or, set, replicate, length-set, length-replicate}
use lib.Seq.{get_or-set_same, get_or-set_other}
use lib.Dec.{eqb, ltb}
use borrow.Author.Tests.{eqb-true, eq-eqb, ne_eqb, lt-ltb}
use Rattle.records.specs.Lists.{all_below}
use Rattle.records.specs.Store.{Store, count}
use Rattle.records.specs.View.{buckets}
use Rattle.records.specs.Index.{bucket, index_rule}
use Rattle.records.specs.Working.Indexing.{word_after, last_in, links_rule, NoneMet, LinksRead}
use Rattle.records.proofs.Lists.{both_true, left_false, right-false, clash, decide, below-zero, below_suc, below_false, below-done, all-zero, last_hit, last-pass, last_one}
use Rattle.records.proofs.IndexSays.{bucket-small}
use Rattle.records.proofs.IndexLinks.{link_test, end_test, links_are}

-- i terms are read and stand where their buckets had come to; `come` has where each bucket has come to
pub record Reading (l : List ℕ) (f : ℕ → ℕ) (n i : ℕ) (come : List ℕ) : Type 0 where
  pub within : i ≤ n
  pub room : buckets ≤ length come
  pub read : links_rule l f i ≡ true
  pub met : (b : ℕ) → b < buckets → get_or come b 0 ≡ last_in f i b

module _ (l : List ℕ) (f : ℕ → ℕ) (n : ℕ) where
  pub reading-none : (come : List ℕ) → NoneMet come → Reading l f n 0 come
  reading-none come z = record { within = omega arith; room = z.room; read = below-zero _; met = λ b h. z.none_yet b h ∙ sym (last_one _) }

  module _ (i : ℕ) (come : List ℕ) (k : Reading l f n i come) where
    module _ (h : i < n) (t : ℕ) (te : t ≡ i + 1) (b : ℕ) (is : b ≡ f t) (small : b < buckets) (x : ℕ) (word : x ≡ word_after l b (get_or come b 0)) where
      here : b ≡ f (suc i)
      here = rw (te, add-one i) at is

      test_is : link_test f n l i ≡ eqb x (suc i)
      test_is =
          let e = here in
          sym (rw (word, k.met b small, e))

      pub reading-not : (x ≡ t → ⊥) → LinksRead l f n come false
      reading-not d = record {
        is = sym (below_false (link_test f n l) n i h (test_is ∙ ne_eqb x (suc i) (λ e. d (e ∙ sym (add-one i) ∙ sym te))));
        come = λ z. clash z refl;
      }

      pub reading-one : x ≡ t → (come' : List ℕ) → come' ≡ set come b t → Reading l f n t come'
      reading-one e come' q = rw (q, te, add-one i) (record {
        within = omega arith;
        room = rw (length-set come b (suc i)) k.room;
        read = below_suc (link_test f n l) i k.read (test_is ∙ eq-eqb x (suc i) (e ∙ te ∙ add-one i));
        met = met;
      })
        where
          met : (a : ℕ) → a < buckets → get_or (set come b (suc i)) a 0 ≡ last_in f (suc i) a
          met a s = decide (eqb (f (suc i)) a)
              (λ g. let z : b ≡ a = here ∙ eqb-true (f (suc i)) a g in
              rw z (get_or-set_same come a (suc i) 0 (let r = k.room in omega arith)
              ∙ sym (last_hit (λ u. ltb 0 u && eqb (f u) a) (suc i) (both_true _ _ (lt-ltb 0 (suc i) (omega arith)) g))))
              (λ g. let d : a ≡ b → ⊥ = λ z. clash (eq-eqb (f (suc i)) a (sym here ∙ sym z)) g in
              get_or-set_other come b a (suc i) 0 d ∙ k.met a s
              ∙ sym (last-pass (λ u. ltb 0 u && eqb (f u) a) (suc i) (right-false (ltb 0 (suc i)) _ g)))

    pub reading-all : n ≤ i → LinksRead l f n come true
    reading-all h =
        let w = k.within in
        let e : i ≡ n = omega arith in
        record { is = sym (rw e at k.read); come = λ z b s. rw e at (k.met b s) }

pub none-met : NoneMet (replicate 64 0)
none-met = record { room = let e = length-replicate {A = ℕ} 64 0 in omega arith; none_yet = λ b h. all-zero 64 b }

-- THE ENDS

module _ (l come : List ℕ) where
  abbrev come_test : ℕ → Bool
  come_test b = eqb (word_after l b (get_or come b 0)) 0

  pub end-not : (b x : ℕ) → b < buckets → x ≡ word_after l b (get_or come b 0) → (x ≡ 0 → ⊥) → false ≡ all_below come_test buckets
  end-not b x h e d = sym (below_false come_test buckets b h (ne_eqb _ 0 (λ z. d (e ∙ z))))

  pub end-turn : (b x : ℕ) → x ≡ word_after l b (get_or come b 0) → x ≡ 0 → all_below come_test b ≡ true → all_below come_test (b + 1) ≡ true
  end-turn b x e z q = rw (add-one b) (below_suc come_test b q (eq-eqb _ 0 (sym e ∙ z)))

  pub end-all : (b : ℕ) → b ≤ buckets → buckets ≤ b → all_below come_test b ≡ true → true ≡ all_below come_test buckets
  end-all b p q h = below-done come_test buckets b p q h

-- BOTH

module _ (l : List ℕ) (s : Store) (n : ℕ) (many : count s ≡ n) (come : List ℕ) (r : Bool) (read : LinksRead l (bucket s) n come r) where
  rule_is : index_rule l s ≡ (links_rule l (bucket s) n && all_below (end_test (bucket s) n l) buckets)
  unfolding index_rule
  rule_is = rw many (sym (links_are (bucket s) n l (λ t. bucket-small _ _)))

  pub index-not : r ≡ false → r ≡ index_rule l s
  index-not e = e ∙ sym (rule_is ∙ left_false _ _ (sym read.is ∙ e))

  same_ends : r ≡ true → (k : ℕ) → k ≤ buckets → all_below (λ b. eqb (word_after l b (get_or come b 0)) 0) k ≡ all_below (end_test (bucket s) n l) k
  unfolding all_below
  same_ends e zero h = refl
  same_ends e (suc k) h =
      let i = same_ends e k (omega arith) in
      let m = read.come e k (omega arith) in
      rw (i, m)

  pub index_is : (x : Bool) → r ≡ true → x ≡ all_below (λ b. eqb (word_after l b (get_or come b 0)) 0) buckets → x ≡ index_rule l s
  index_is x t q =
      q ∙ same_ends t buckets (omega arith) ∙ sym (rule_is ∙ ap (λ (b : Bool). b && all_below (end_test (bucket s) n l) buckets) (sym read.is ∙ t))
