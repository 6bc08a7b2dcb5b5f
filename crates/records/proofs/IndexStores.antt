-- The index of a store: where the buckets stay, after a term was made, and where other words than those of terms are written.
use Rattle.std.specs.Prelude.{if◌then◌else◌}
use mathlib.Core.Path.{◌≡◌, refl, sym, ap, subst, ◌∙◌}
use mathlib.Core.Bool.{true, ◌||◌}
use mathlib.Core.List.{List, [], ◌∷◌}
use Prim.Native.Nat.{ℕ, zero, suc, ◌≤◌, ◌<◌}
use native.Mathlib.Omega.{arith}
use lib.ListN.{length}
use lib.Dec.{eqb}
use borrow.Author.Tests.{eqb-true}
use Rattle.records.specs.declared.State.{State}
use Rattle.records.specs.Store.{Term, Store, term, count, kind, within, text, parts}
use Rattle.records.specs.View.{Lent, store_of}
use Rattle.records.specs.Index.{numbers, sum, bucket_of, bucket, IndexOf, Indexed, SameIndex}
use Rattle.records.specs.Make.{with_reasons}
use Rattle.records.specs.Calls.{KeepsStore}
use Rattle.records.specs.Working.Indexing.{SameBuckets, CutIndex, Linked}
use Rattle.records.specs.Working.Puts.{IndexLeft}
use Rattle.records.specs.Working.Doing.{Keeps}
use Rattle.records.proofs.Lists.{decide, within_low, within-high}
use Rattle.records.proofs.Grown.{Grown}
use Rattle.records.proofs.Counts.{Higher, higher-below, agree-below}
use Rattle.records.proofs.IndexFinds.{bucket-is, constant-numbers, variable-numbers}
use Rattle.records.proofs.IndexLaws.{same_none, cut-index-none, cut-index-then, index_stays}

-- BUCKETS

-- the numbers of a record, by its text and its parts
abbrev numbers_of : Term → List ℕ → List ℕ → List ℕ
numbers_of x w l =
    if eqb x.kind 1 || eqb x.kind 2 then w
    else if eqb x.kind 3 then l
    else if eqb x.kind 4 then (x.first ∷ [])
    else (x.first ∷ x.second ∷ [])

numbers_are : (s : Store) (t : ℕ) → numbers s t ≡ numbers_of (term s t) (text s t) (parts s t)
unfolding numbers
numbers_are s t = refl

same_numbers : (x : Term) (w w' l l' : List ℕ) → (x.kind ≡ 1 → w' ≡ w) → (x.kind ≡ 2 → w' ≡ w) → (x.kind ≡ 3 → l' ≡ l) → numbers_of x w' l' ≡ numbers_of x w l
same_numbers x w w' l l' f g h =
    decide (eqb x.kind 1) (λ p. rw p (f (eqb-true _ _ p)))
    (λ p. decide (eqb x.kind 2) (λ q. rw (p, q) (g (eqb-true _ _ q)))
    (λ q. decide (eqb x.kind 3) (λ r. rw (p, q, r) (h (eqb-true _ _ r)))
    (λ r. rw (p, q, r))))

-- the bucket of a record is read from its kind and from its text, its parts or its words
bucket-read : (s s' : Store) (t : ℕ) → term s' t ≡ term s t → (kind s t ≡ 1 → text s' t ≡ text s t) → (kind s t ≡ 2 → text s' t ≡ text s t) → (kind s t ≡ 3 → parts s' t ≡ parts s t) → bucket s' t ≡ bucket s t
bucket-read s s' t e f g h =
    let k = ap (λ (x : Term). x.kind) e in
    let n : numbers s' t ≡ numbers s t = numbers_are s' t ∙ ap (λ (x : Term). numbers_of x (text s' t) (parts s' t)) e
    ∙ same_numbers (term s t) (text s t) (text s' t) (parts s t) (parts s' t) f g h ∙ sym (numbers_are s t) in
    cc

-- and of nothing else in it
pub bucket-words : (s s' : Store) (t : ℕ) → kind s' t ≡ kind s t → (term s' t).first ≡ (term s t).first → (term s' t).second ≡ (term s t).second → text s' t ≡ text s t → parts s' t ≡ parts s t → bucket s' t ≡ bucket s t
unfolding numbers
bucket-words s s' t a b c d e = cc

pub bucket-grown : {s s' : Store} → Grown s s' → SameBuckets s s'
bucket-grown {s} {s'} g t w = bucket-read s s' t (g.old t (within-high (count s) t w)) (g.constants t) (g.variables t) (g.concats t)

-- terms, cells and characters are those of s: reasons, keys, the counter and the room may be others
pub record SameRecords (s s' : Store) : Type 0 where
  pub terms : s'.terms ≡ s.terms
  pub cells : s'.cells ≡ s.cells
  pub chars : s'.chars ≡ s.chars

pub bucket_records : {s s' : Store} → SameRecords s s' → (t : ℕ) → bucket s' t ≡ bucket s t
bucket_records {s} {s'} r t =
    bucket-read s s' t (rw r.terms) (λ e. rw (r.terms, r.chars)) (λ e. rw (r.terms, r.chars)) (λ e. rw (r.terms, r.cells))

pub records_same : {s s' : Store} → s' ≡ s → SameRecords s s'
records_same e = record { terms = ap (λ (s : Store). s.terms) e; cells = ap (λ (s : Store). s.cells) e; chars = ap (λ (s : Store). s.chars) e }

-- a store with other reasons, keys, counter and room, named twice
pub records_same-but : {s s₁ s₂ : Store} → s₁ ≡ s₂ → (s₁.terms ≡ s.terms) → (s₁.cells ≡ s.cells) → (s₁.chars ≡ s.chars) → SameRecords s s₂
records_same-but p a b c = record { terms = ap (λ (x : Store). x.terms) (sym p) ∙ a; cells = ap (λ (x : Store). x.cells) (sym p) ∙ b; chars = ap (λ (x : Store). x.chars) (sym p) ∙ c }

-- a store with other reasons, named twice
pub records_beside : {s s₁ s₂ : Store} {rs : List (ℕ × ℕ)} → s₁ ≡ s₂ → s₁ ≡ with_reasons s rs → SameRecords s s₂
records_beside {s} p e = let q = sym p ∙ e in record { terms = ap (λ (x : Store). x.terms) q; cells = ap (λ (x : Store). x.cells) q; chars = ap (λ (x : Store). x.chars) q }

-- WHERE HEADS AND NINTH WORDS STAY

pub left-none : {l : List ℕ} → IndexLeft l l
left-none = record { heads = λ b h. refl; nexts = λ u. refl }

pub left-then : {l l₁ l₂ : List ℕ} → IndexLeft l l₁ → IndexLeft l₁ l₂ → IndexLeft l l₂
left-then p q = record { heads = λ b h. q.heads b h ∙ p.heads b h; nexts = λ u. q.nexts u ∙ p.nexts u }

pub left_same : {l l' : List ℕ} → IndexLeft l l' → (n : ℕ) → SameIndex l l' n
left_same p n = record { heads = p.heads; nexts = λ t w. p.nexts t }

-- INDEXES

-- the same buckets, heads and ninth words
pub indexed-like : (s s' : Store) (l l' : List ℕ) → count s' ≡ count s → ((t : ℕ) → bucket s' t ≡ bucket s t) → SameIndex l l' (count s) → Indexed l s → Indexed l' s'
indexed-like s s' l l' n same i x = subst (λ (k : ℕ). IndexOf (bucket s') k l') (sym n) (index_stays (bucket s) (count s) l x (bucket s') l' i (λ t w. same t))

-- the same records, heads and ninth words
pub indexed_records : {s s' : Store} {l l' : List ℕ} → SameRecords s s' → SameIndex l l' (count s) → Indexed l s → Indexed l' s'
indexed_records {s} {s'} {l} {l'} r i x = indexed-like s s' l l' (ap length r.terms) (bucket_records r) i x

-- one term more, put at the end of its chain
pub indexed-grown : (s s' : Store) (l l' : List ℕ) (n b : ℕ) → count s ≡ n → count s' ≡ suc n → Indexed l s → SameBuckets s s' → bucket s' (suc n) ≡ b → Linked l l' n b → Indexed l' s'
indexed-grown s s' l l' n b e f x same here linked =
    let y : IndexOf (bucket s) n l = subst (λ (k : ℕ). IndexOf (bucket s) k l) e x in
    let z : IndexOf (bucket s') n l = index_stays (bucket s) n l y (bucket s') l (same_none l n) (λ t w. same t (rw e w)) in
    subst (λ (k : ℕ). IndexOf (bucket s') k l') (sym f) (linked.indexed (bucket s') here z)

-- THE BUCKET OF A NEW TERM

module _ (s : Store) (t : ℕ) where
  pub bucket-text : (k : ℕ) (w : List ℕ) → within 2 k ≡ true → kind s t ≡ k → text s t ≡ w → bucket s t ≡ bucket_of k w
  bucket-text k w h e f = go k (within_low 2 k h) (within-high 2 k h) e
    where
      go : (j : ℕ) → 0 < j → j ≤ 2 → kind s t ≡ j → bucket s t ≡ bucket_of j w
      go zero a b q = absurd (omega arith)
      go (suc zero) a b q = bucket-is s t 1 w q (constant-numbers s t q ∙ f)
      go (suc (suc zero)) a b q = bucket-is s t 2 w q (variable-numbers s t q ∙ f)
      go (suc (suc (suc j))) a b q = absurd (omega arith)

  pub bucket-parts : (l : List ℕ) → kind s t ≡ 3 → parts s t ≡ l → bucket s t ≡ bucket_of 3 l
  unfolding numbers
  bucket-parts l e f = rw (e, f)

  pub bucket-length : (a : ℕ) → kind s t ≡ 4 → (term s t).first ≡ a → bucket s t ≡ bucket_of 4 (a ∷ 0 ∷ [])
  unfolding numbers bucket_of sum
  bucket-length a e f = rw (e, f)

  pub bucket-equation : (a b : ℕ) → kind s t ≡ 5 → (term s t).first ≡ a → (term s t).second ≡ b → bucket s t ≡ bucket_of 5 (a ∷ b ∷ [])
  unfolding numbers
  bucket-equation a b e f g = rw (e, f, g)

-- WHAT IS KEPT

pub keeps_same : {m : Lent} {c : State} → Keeps m m c
keeps_same {m} {c} = record { store = refl; index = cut-index-none m.terms c.terms }

-- no word of terms is written
pub keeps-terms : {m m' : Lent} {c : State} → KeepsStore m m' c → m'.terms ≡ m.terms → Keeps m m' c
keeps-terms {m} {m'} {c} e t = record { store = e; index = subst (λ (l : List ℕ). CutIndex m.terms l c.terms) (sym t) (cut-index-none m.terms c.terms) }

-- what is kept up to some counts is kept up to those of an earlier store, which was kept up to there
pub keeps_then : {m m₁ m₂ : Lent} {c d : State} → Higher (store_of m c) (store_of m₁ d) → Keeps m m₁ c → Keeps m₁ m₂ d → Keeps m m₂ c
keeps_then {m} {m₁} {m₂} {c} {d} h p q = record {
  store = agree-below m m₁ m₂ c d h q.store ∙ p.store;
  index = cut-index-then m.terms m₁.terms m₂.terms c.terms d.terms p.index q.index (higher-below m m₁ c d h).terms;
}
