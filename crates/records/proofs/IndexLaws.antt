-- The index in the lent words: that it can be walked and searched, what is left of it after a cut, where it stays, and that one term more is indexed.
use mathlib.Core.Path.{◌≡◌, refl, sym, ap, ◌∙◌}
use mathlib.Core.Bool.{Bool, true}
use mathlib.Core.List.{List, Memᴰ}
use mathlib.Core.Logic.{⊎_elim}
use Prim.Native.Nat.{ℕ, suc, ◌≤◌, ◌<◌}
use native.Mathlib.Nat.{eq-or-lt_of_le, le_of_suc-le-suc}
use native.Mathlib.Omega.{arith}
use lib.ListN.{length, get_or, set}
use lib.Seq.{get_or-set_same, get_or-set_other}
use lib.Dec.{eqb, ltb, leb}
use borrow.Author.Tests.{eqb-true, eqb-false, ltb-true, ltb-false, leb-true, leb-false, le-leb, lt-leb}
use Rattle.records.specs.Lists.{first_below}
use Rattle.records.specs.Store.{within}
use Rattle.records.specs.View.{buckets, term_place, term_words, head_at, next_at}
use Rattle.records.specs.Index.{next_in, IndexOf, SameIndex}
use Rattle.records.specs.Chained.{Chain}
use Rattle.records.specs.Make.{number_of}
use Rattle.records.specs.Working.Indexing.{Walkable, Searchable, FirstIn, cut_at, CutIndex, Cut, Reached, at_head, after_last, Tied, Linked}
use Rattle.records.specs.Working.Puts.{WordsPut}
use Rattle.records.proofs.Lists.{decide, within_low, within-high, within-is}
use Rattle.records.proofs.IndexNexts.{next_most, next-none}
use Rattle.records.proofs.IndexChains.{chain-one, chain_held}
use Rattle.records.proofs.IndexFinds.{chain_first}
use Rattle.records.proofs.IndexGrows.{next-same, next_last, next-new, next-kept}

-- A WORD THAT IS CUT

pub cut_small : (n x : ℕ) → x ≤ n → cut_at n x ≡ x
cut_small n x h = rw (le-leb x n h)

pub cut_large : (n x : ℕ) → n < x → cut_at n x ≡ 0
cut_large n x h = rw (lt-leb x n h)

cut-none : (n x : ℕ) → x ≡ 0 → cut_at n x ≡ 0
cut-none n x e = cut_small n x (omega arith) ∙ e

-- a cut at more terms before leaves no trace
cut_twice : (n m x : ℕ) → n ≤ m → cut_at n (cut_at m x) ≡ cut_at n x
cut_twice n m x h = decide (leb x m) (λ e. ap (cut_at n) (cut_small m x (leb-true x m e)))
    (λ e. let k = leb-false x m e in ap (cut_at n) (cut_large m x k) ∙ cut-none n 0 refl ∙ sym (cut_large n x (omega arith)))

cut-then : (n m x y z : ℕ) → n ≤ m → cut_at n y ≡ cut_at n x → cut_at m z ≡ cut_at m y → cut_at n z ≡ cut_at n x
cut-then n m x y z h p q = sym (cut_twice n m z h) ∙ ap (cut_at n) q ∙ cut_twice n m y h ∙ p

-- AN INDEX

module _ (f : ℕ → ℕ) (n : ℕ) (l : List ℕ) (i : IndexOf f n l) where
  pub index_walkable : (b : ℕ) → b < buckets → Walkable l n b
  index_walkable b h =
      let r = chain_held f (next_at l) n i.nexts b (head_at l b) (i.heads b h) in
      record { members = r.members; walked = r.walked; ascends = r.held.ascends; inside = r.held.inside }

  -- the chain of a bucket is of terms of that bucket
  pub chain_bucket : (b : ℕ) → b < buckets → (ts : List ℕ) → Chain (next_at l) (head_at l b) ts → (t : ℕ) → Memᴰ t ts → f t ≡ b
  chain_bucket b h ts c t m =
      let r = chain_held f (next_at l) n i.nexts b (head_at l b) (i.heads b h) in
      r.held.no_other t (rw (chain-one c r.walked) at m)

  -- a head and a ninth word name one of the n terms, or none
  pub head_most : (b : ℕ) → b < buckets → head_at l b ≤ n
  head_most b h = let e = i.heads b h in let k = next_most f n 0 b in omega arith

  pub ninth_most : (t : ℕ) → within n t ≡ true → next_at l t ≤ n
  ninth_most t w = let e = i.nexts t w in let k = next_most f n t (f t) in omega arith

  -- so a cut gives back what later terms were linked to
  pub cut_back : (l' l'' : List ℕ) → CutIndex l l' n → Cut l' l'' n → SameIndex l l'' n
  cut_back l' l'' k c = record {
    heads = λ b h. c.heads b h ∙ k.heads b h ∙ cut_small n (head_at l b) (head_most b h);
    nexts = λ t w. c.nexts t w ∙ k.nexts t w ∙ cut_small n (next_at l t) (ninth_most t w);
  }

  -- where heads, ninth words and buckets stay, the index does
  pub index_stays : (g : ℕ → ℕ) (l' : List ℕ) → SameIndex l l' n → ((t : ℕ) → within n t ≡ true → g t ≡ f t) → IndexOf g n l'
  index_stays g l' s e = record {
    heads = λ b h. s.heads b h ∙ i.heads b h ∙ sym (same 0 b);
    nexts = λ t w. s.nexts t w ∙ i.nexts t w ∙ sym (same t (f t)) ∙ ap (next_in g n t) (sym (e t w));
  }
    where
      same : (t b : ℕ) → next_in g n t b ≡ next_in f n t b
      same t b = next-same f g n t b (λ u a c. e u (within-is n u a c))

-- SEARCHING

module _ (l : List ℕ) (n b : ℕ) (p : ℕ → Bool) (s : Searchable l n b p) (a : ℕ) (e : a ≡ b) where
  pub search_walkable : Walkable l n a
  search_walkable = rw e (index_walkable s.f n l s.indexed b s.small)

  -- the first of the chain is the lowest of all
  pub search_first : (r : ℕ) → FirstIn l a p r → r ≡ number_of (first_below (λ i. p (suc i)) n)
  search_first r g =
      let w = index_walkable s.f n l s.indexed b s.small in
      let c = rw e at g in
      c w.members w.walked ∙ chain_first s.f n l s.indexed p b s.small s.lies w.members w.walked

-- WHAT IS KEPT

pub same_none : (l : List ℕ) (n : ℕ) → SameIndex l l n
same_none l n = record { heads = λ b h. refl; nexts = λ t w. refl }

pub same-cut : {l l' : List ℕ} {n : ℕ} → SameIndex l l' n → CutIndex l l' n
same-cut {n = n} s = record { heads = λ b h. ap (cut_at n) (s.heads b h); nexts = λ t w. ap (cut_at n) (s.nexts t w) }

pub cut-index-none : (l : List ℕ) (n : ℕ) → CutIndex l l n
cut-index-none l n = record { heads = λ b h. refl; nexts = λ t w. refl }

pub cut-index-then : (l l' l'' : List ℕ) (n m : ℕ) → CutIndex l l' n → CutIndex l' l'' m → n ≤ m → CutIndex l l'' n
cut-index-then l l' l'' n m p q h = record {
  heads = λ b k. cut-then n m (head_at l b) (head_at l' b) (head_at l'' b) h (p.heads b k) (q.heads b k);
  nexts = λ t w. cut-then n m (next_at l t) (next_at l' t) (next_at l'' t) h (p.nexts t w)
      (q.nexts t (let a = within-high n t w in within-is m t (within_low n t w) (omega arith)));
}

-- ONE TERM MORE

module _ {l : List ℕ} {n b : ℕ} (small : b < buckets) where
  reached-low : {place : ℕ} → Reached l n b place → place < term_words n
  reached-low (at_head e) = omega arith
  reached-low (after_last t w e g) = let k = within-high n t w in omega arith

  -- a head that is reached is that of the bucket
  reached_head : {place : ℕ} → Reached l n b place → place < buckets → place ≡ b
  reached_head (at_head e) h = refl
  reached_head (after_last t w e g) h = absurd (omega arith)

reached-zero : {l : List ℕ} {n b place : ℕ} → Reached l n b place → get_or l place 0 ≡ 0
reached-zero (at_head e) = e
reached-zero (after_last t w e g) = e

module _ (f : ℕ → ℕ) {l : List ℕ} {n b : ℕ} (small : b < buckets) (i : IndexOf f n l) where
  -- a ninth word that is reached is that of a term of the bucket
  reached-term : {place : ℕ} → Reached l n b place → (t : ℕ) → term_place t 8 ≡ place → f t ≡ b
  reached-term (at_head e) t q = absurd (omega arith)
  reached-term (after_last u w e g) t q = let z : t ≡ u = omega arith in rw z (g f i)

  -- no other word ends the bucket's chain: neither its head nor the ninth word of a term
  other_head : {place : ℕ} → Reached l n b place → (b ≡ place → ⊥) → next_in f n 0 b ≡ 0 → ⊥
  other_head (at_head e) d z = d refl
  other_head (after_last t w e g) d z = next-none f n 0 b z t (within_low n t w) (within-high n t w) (g f i)

  other-term : {place : ℕ} → Reached l n b place → (t : ℕ) → within n t ≡ true → f t ≡ b → (term_place t 8 ≡ place → ⊥) → next_in f n t b ≡ 0 → ⊥
  other-term (at_head e) t w q d z = next-none f n 0 b (sym (i.heads b small) ∙ e) t (within_low n t w) (within-high n t w) q
  other-term (after_last u v e g) t w q d z =
      let k : f u ≡ b = g f i in
      let y : next_in f n u b ≡ 0 = ap (next_in f n u) (sym k) ∙ sym (i.nexts u v) ∙ e in
      decide (ltb t u) (λ h. next-none f n t b z u (ltb-true t u h) (within-high n u v) k)
      (λ h. decide (ltb u t) (λ j. next-none f n u b y t (ltb-true u t j) (within-high n t w) q)
      (λ j. let a = ltb-false t u h in let c = ltb-false u t j in d (omega arith)))

module _ {l l₁ l' : List ℕ} {n b : ℕ} (small : b < buckets) (room : term_words n ≤ length l) (tied : Tied l l₁ n b) {k x y : ℕ} (put : WordsPut l₁ l' n k x y) where
  word_tied : (q : ℕ) → q < term_place (suc n) 0 → get_or l' q 0 ≡ get_or (set l tied.place (suc n)) q 0
  word_tied q h = put.below q h ∙ ap (λ (m : List ℕ). get_or m q 0) tied.is

  -- the word that ended the chain names the new term
  word-new : (q : ℕ) → q < term_place (suc n) 0 → q ≡ tied.place → get_or l' q 0 ≡ suc n
  word-new q h e =
      let r = reached-low small tied.reached in
      word_tied q h ∙ ap (λ (j : ℕ). get_or (set l tied.place (suc n)) j 0) e ∙ get_or-set_same l tied.place (suc n) 0 (omega arith)

  word-old : (q : ℕ) → q < term_place (suc n) 0 → (q ≡ tied.place → ⊥) → get_or l' q 0 ≡ get_or l q 0
  word-old q h d = word_tied q h ∙ get_or-set_other l tied.place q (suc n) 0 d

  word-ended : (q : ℕ) → q ≡ tied.place → get_or l q 0 ≡ 0
  word-ended q e = ap (λ (j : ℕ). get_or l j 0) e ∙ reached-zero tied.reached

  word_cut : (q : ℕ) → q < term_place (suc n) 0 → cut_at n (get_or l' q 0) ≡ cut_at n (get_or l q 0)
  word_cut q h = decide (eqb q tied.place)
      (λ e. let p = eqb-true q tied.place e in
      let a = word-new q h p in
      cut_large n (get_or l' q 0) (omega arith) ∙ sym (cut-none n (get_or l q 0) (word-ended q p)))
      (λ e. ap (cut_at n) (word-old q h (eqb-false q tied.place e)))

  module _ (f : ℕ → ℕ) (new : f (suc n) ≡ b) (i : IndexOf f n l) where
    head_linked : (a : ℕ) → a < buckets → head_at l' a ≡ next_in f (suc n) 0 a
    head_linked a h = decide (eqb a tied.place)
        (λ e. let p = eqb-true a tied.place e in
        let q : a ≡ b = p ∙ reached_head small tied.reached (omega arith) in
        word-new a (omega arith) p ∙ sym (next-new f n 0 a (omega arith) (new ∙ sym q) (sym (i.heads a h) ∙ word-ended a p)))
        (λ e. let d = eqb-false a tied.place e in
        word-old a (omega arith) d ∙ i.heads a h
        ∙ sym (next-kept f n 0 a (λ q k z.
        let r : a ≡ b = sym q ∙ new in
        other_head f small i tied.reached (λ c. d (r ∙ c)) (ap (next_in f n 0) (sym r) ∙ z))))

    ninth-linked : (t : ℕ) → within n t ≡ true → next_at l' t ≡ next_in f (suc n) t (f t)
    ninth-linked t w = decide (eqb (term_place t 8) tied.place)
        (λ e. let p = eqb-true (term_place t 8) tied.place e in
        let q = reached-term f small i tied.reached t p in
        word-new (term_place t 8) low p ∙ sym (next-new f n t (f t) high (new ∙ sym q) (sym (i.nexts t w) ∙ word-ended (term_place t 8) p)))
        (λ e. let d = eqb-false (term_place t 8) tied.place e in
        word-old (term_place t 8) low d ∙ i.nexts t w
        ∙ sym (next-kept f n t (f t) (λ q k z.
        let r : f t ≡ b = sym q ∙ new in
        other-term f small i tied.reached t w r d (ap (next_in f n t) (sym r) ∙ z))))
      where
        high : t ≤ n
        high = within-high n t w

        low : term_place t 8 < term_place (suc n) 0
        low = let h = within-high n t w in omega arith

    last-linked : (t : ℕ) → t ≡ suc n → next_at l' t ≡ next_in f (suc n) t (f t)
    last-linked t e = rw e (put.last ∙ sym (next_last f (suc n) (suc n) (f (suc n)) (omega arith)))

    index-linked : IndexOf f (suc n) l'
    index-linked = record {
      heads = head_linked;
      nexts = λ t w. ⊎_elim (last-linked t) (λ h. ninth-linked t (within-is n t (within_low (suc n) t w) (le_of_suc-le-suc h))) (eq-or-lt_of_le (within-high (suc n) t w));
    }

  pub tied_linked : Linked l l' n b
  tied_linked = record {
    indexed = index-linked;
    kept = record {
      heads = λ a h. word_cut a (omega arith);
      nexts = λ t w. word_cut (term_place t 8) (let h = within-high n t w in omega arith);
    };
  }
