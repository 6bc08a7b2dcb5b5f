-- Looking up: the first equal term of the chain of a bucket is the lowest equal term, where all that are equal lie in that bucket.
use mathlib.Core.Path.{◌≡◌, refl, sym, ap, ◌∙◌}
use mathlib.Core.Bool.{Bool, true, false, ◌&&◌}
use mathlib.Core.List.Memᴰ
use mathlib.Core.List.{List, [], ◌∷◌}
use mathlib.Core.Logic.{⊎_elim}
use mathlib.Core.Option.{Option, some}
use Prim.Native.Nat.{ℕ, zero, suc, ◌≤◌, ◌<◌}
use native.Mathlib.Nat.{eq-or-lt_of_le}
use native.Mathlib.Omega.{arith}
use lib.Dec.{eqb, ltb}
use borrow.Author.Tests.{eqb-true, ltb-true, ltb-false}
use Rattle.records.specs.Lists.{first_of, same_word, first_below, Every, none_left, and}
use Rattle.records.specs.Store.{Store, within, term, count, kind, text, parts, or_none}
use Rattle.records.specs.Rules.{named}
use Rattle.records.specs.Make.{number_of, lookup, constant_of, concat_of, length_of, equation_of}
use Rattle.records.proofs.Lists.{both_left, both_right, clash, decide, within-is, first_hit, first-stays, first_absent, word_is}
use Rattle.records.specs.View.{buckets, head_at, next_at}
use Rattle.records.specs.Index.{numbers, bucket_of, bucket, IndexOf, Indexed}
use Rattle.records.specs.Chained.{Chain, ends, goes, Lies, Finds}
use Rattle.records.proofs.IndexNexts.{Lowest, nothing, lowest}
use Rattle.records.proofs.IndexChains.{chain-one, ascending_first, Held, held_first, held-rest, chain_held}

-- THE FIRST OF A CHAIN

-- the lowest that passes is x, which passes, where no lower number does
first_is : (p : ℕ → Bool) (n x : ℕ) → 0 < x → x ≤ n → p x ≡ true → ((t : ℕ) → 0 < t → t < x → p t ≡ false) → number_of (first_below (λ i. p (suc i)) n) ≡ x
first_is p n zero h k e g = absurd (omega arith)
first_is p n (suc x) h k e g =
    let q : ℕ → Bool = λ i. p (suc i) in
    ap number_of (first-stays q (suc x) n x (first_hit q x (first_absent q x (λ i l. g (suc i) (omega arith) (omega arith))) e) k)

module _ (f : ℕ → ℕ) (n b : ℕ) (p : ℕ → Bool) (lies : (t : ℕ) → 0 < t → t ≤ n → p t ≡ true → f t ≡ b) where
  -- no number up to u passes
  abbrev PassedBy : ℕ → Type 0
  PassedBy u = (t : ℕ) → 0 < t → t ≤ u → p t ≡ false

  -- nor any below the lowest term above u of the bucket
  below-lowest : (u x : ℕ) → PassedBy u → Lowest f n u b x → (t : ℕ) → 0 < t → t < x → p t ≡ false
  below-lowest u x g (nothing e h) t a c = absurd (omega arith)
  below-lowest u x g (lowest h k q r) t a c =
      decide (ltb u t) (λ i. decide (p t) (λ j. absurd (r t (ltb-true u t i) c (lies t a (omega arith) j))) (λ j. j)) (λ i. g t a (ltb-false u t i))

  pub first-met : (u : ℕ) (l : List ℕ) → Held f n u b l → PassedBy u → or_none (first_of p l) ≡ number_of (first_below (λ i. p (suc i)) n)
  unfolding first_of
  first-met u [] r g = sym (ap number_of (first_absent (λ i. p (suc i)) n away))
    where
      away : (i : ℕ) → i < n → p (suc i) ≡ false
      away i h = decide (p (suc i))
          (λ e. decide (ltb u (suc i)) (λ a. absurd (Memᴰ.not-nil (r.each (suc i) (ltb-true u (suc i) a) h (lies (suc i) (omega arith) h e))))
          (λ a. g (suc i) (omega arith) (ltb-false u (suc i) a))) (λ e. e)
  first-met u (x ∷ l) r g = go (first-met x l (held-rest r)) (held_first r) (p x) refl
    where
      go : (PassedBy x → or_none (first_of p l) ≡ number_of (first_below (λ i. p (suc i)) n)) → Lowest f n u b x → (c : Bool) → p x ≡ c
          → or_none (elim c [ true ↦ some x | false ↦ first_of p l ]) ≡ number_of (first_below (λ i. p (suc i)) n)
      go ih w true e = let h = ascending_first r.ascends in sym (first_is p n x (omega arith) (r.inside x (Memᴰ.head refl)) e (below-lowest u x g w))
      go ih w false e = ih (λ t a c. ⊎_elim (λ i. ap p i ∙ e) (λ i. below-lowest u x g w t a i) (eq-or-lt_of_le c))

-- the whole chain of a bucket in which all that pass lie
pub chain_first : (f : ℕ → ℕ) (n : ℕ) (l : List ℕ) → IndexOf f n l → (p : ℕ → Bool) (b : ℕ) → b < buckets
    → ((t : ℕ) → within n t ≡ true → p t ≡ true → f t ≡ b) → (ts : List ℕ) → Chain (next_at l) (head_at l b) ts
    → or_none (first_of p ts) ≡ number_of (first_below (λ i. p (suc i)) n)
chain_first f n l i p b h lies ts c =
    let r = chain_held f (next_at l) n i.nexts b (head_at l b) (i.heads b h) in
    ap (λ (m : List ℕ). or_none (first_of p m)) (chain-one c r.walked)
    ∙ first-met f n b p (λ t a c. lies t (within-is n t a c)) 0 r.members r.held (λ t a z. absurd (omega arith))

lookup_first : (s : Store) (l : List ℕ) → Indexed l s → (equal : Store → ℕ → Bool) (b : ℕ) → b < buckets → Lies s equal b → (ts : List ℕ) → Chain (next_at l) (head_at l b) ts
    → or_none (first_of (equal s) ts) ≡ number_of (lookup equal s)
unfolding lookup
lookup_first s l i equal b h lies ts c = chain_first (bucket s) (count s) l i (equal s) b h lies ts c

-- THAT CHAIN ONLY

chain_same : {next next' : ℕ → ℕ} {t : ℕ} {l : List ℕ} → Chain next t l → Every (λ u. next' u ≡ next u) l → Chain next' t l
chain_same (ends e) none_left = ends e
chain_same (goes {l = l} d c) (and e k) = goes {l = l} d (rw e (chain_same c k))

met-same : (p p' : ℕ → Bool) {l : List ℕ} → Every (λ u. p' u ≡ p u) l → first_of p' l ≡ first_of p l
unfolding first_of
met-same p p' none_left = refl
met-same p p' (and {a = x} {l = l} e k) = go (p' x) (p x) e (met-same p p' k)
  where
    go : (c d : Bool) → c ≡ d → first_of p' l ≡ first_of p l → ◌≡◌ {A = Option ℕ} (elim c [ true ↦ some x | false ↦ first_of p' l ]) (elim d [ true ↦ some x | false ↦ first_of p l ])
    go true true e i = refl
    go true false e i = clash refl e
    go false true e i = clash refl (sym e)
    go false false e i = i

-- THE BUCKET OF WHAT IS LOOKED FOR

module _ (s : Store) (t : ℕ) where
  pub bucket-is : (k : ℕ) (l : List ℕ) → kind s t ≡ k → numbers s t ≡ l → bucket s t ≡ bucket_of k l
  bucket-is k l p q = cc

  pub constant-numbers : kind s t ≡ 1 → numbers s t ≡ text s t
  unfolding numbers
  constant-numbers e = rw e

  pub variable-numbers : kind s t ≡ 2 → numbers s t ≡ text s t
  unfolding numbers
  variable-numbers e = rw e

  pub concat-numbers : kind s t ≡ 3 → numbers s t ≡ parts s t
  unfolding numbers
  concat-numbers e = rw e

  pub length-numbers : kind s t ≡ 4 → numbers s t ≡ (term s t).first ∷ []
  unfolding numbers
  length-numbers e = rw e

  pub equation-numbers : kind s t ≡ 5 → numbers s t ≡ (term s t).first ∷ (term s t).second ∷ []
  unfolding numbers
  equation-numbers e = rw e

-- same kind and same word
word-lies : (s : Store) (t k : ℕ) (v w : List ℕ) → (kind s t ≡ k → numbers s t ≡ v) → (eqb (kind s t) k && same_word v w) ≡ true → bucket s t ≡ bucket_of k w
word-lies s t k v w f e =
    let h = eqb-true (kind s t) k (both_left (eqb (kind s t) k) (same_word v w) e) in
    bucket-is s t k w h (f h ∙ word_is v w (both_right (eqb (kind s t) k) (same_word v w) e))

pub constants_lie : (s : Store) (w : List ℕ) → Lies s (constant_of w) (bucket_of 1 w)
unfolding constant_of
constants_lie s w t v e = word-lies s t 1 (text s t) w (constant-numbers s t) e

pub variables_lie : (s : Store) (w : List ℕ) → Lies s (named w) (bucket_of 2 w)
unfolding named
variables_lie s w t v e = word-lies s t 2 (text s t) w (variable-numbers s t) e

pub concats_lie : (s : Store) (l : List ℕ) → Lies s (concat_of l) (bucket_of 3 l)
unfolding concat_of
concats_lie s l t v e = word-lies s t 3 (parts s t) l (concat-numbers s t) e

pub lengths_lie : (s : Store) (a : ℕ) → Lies s (length_of a) (bucket_of 4 (a ∷ []))
unfolding length_of
lengths_lie s a t v e =
    let k = eqb-true (kind s t) 4 (both_left _ _ e) in
    let p = eqb-true (term s t).first a (both_right (eqb (kind s t) 4) _ e) in
    bucket-is s t 4 (a ∷ []) k (length-numbers s t k ∙ ap (λ (x : ℕ). x ∷ []) p)

pub equations_lie : (s : Store) (a b : ℕ) → Lies s (equation_of a b) (bucket_of 5 (a ∷ b ∷ []))
unfolding equation_of
equations_lie s a b t v e =
    let f = both_left (eqb (kind s t) 5 && eqb (term s t).first a) (eqb (term s t).second b) e in
    let k = eqb-true (kind s t) 5 (both_left _ _ f) in
    let p = eqb-true (term s t).first a (both_right (eqb (kind s t) 5) _ f) in
    let q = eqb-true (term s t).second b (both_right (eqb (kind s t) 5 && eqb (term s t).first a) _ e) in
    bucket-is s t 5 (a ∷ b ∷ []) k (equation-numbers s t k ∙ (cc))

pub finds : Finds
finds = record {
  first = lookup_first;
  walks = λ next next' t l c a. chain_same c a;
  meets = λ p p' l a. met-same p p' a;
  constants = constants_lie;
  variables = variables_lie;
  concats = concats_lie;
  lengths = lengths_lie;
  equations = equations_lie;
}
