-- The views: what a record of the store is in the lent words.
use mathlib.Core.Path.{◌≡◌, refl, sym, ap, ◌∙◌}
use mathlib.Core.Bool.{Bool, true}
use mathlib.Core.List.{List}
use Prim.Native.Nat.{ℕ, zero, suc, ◌+◌, ◌-◌, ◌*◌, ◌/◌, ◌%◌, ◌<◌, ◌≤◌}
use native.Mathlib.Nat.{mod-lt, mul-div-le, lt-mul-div-succ, lt_of_mul-lt-mul_left, div-add-mod}
use native.Mathlib.Omega.{arith}
use lib.ListN.{length, get_or, take, drop, length-take, length-drop}
use lib.Seq.{ext_get_or, get_or-take, get_or-drop}
use Rattle.records.specs.declared.State.{State}
use Rattle.records.specs.Lists.{table, same_word}
use Rattle.records.specs.Store.{Term, Cell, no_term, no_cell, term_in, cell_in, text_in, within, Store, kind, term, text}
use Rattle.records.specs.View.{cell_width, term_place, cell_place, term_words, cell_words, term_at, next_at, cell_at, terms_view, cells_view, chars_view, pairs_view, span, Lent, pair_at, zero_term, zero_cell, read_in, termed}
use Rattle.records.specs.Calls.{KeepsStore}
use Rattle.records.proofs.Lists.{table_at_lem, table-past, table_same, table-length, within_low, within-high}
use Rattle.records.proofs.Grown.{kind-term}

-- a counted term is read from its words, and no other number names one
pub term_is : (l : List ℕ) (n t : ℕ) → 0 < t → t ≤ n → term_in (terms_view l n) t ≡ term_at l t
unfolding term_in
term_is l n zero p q = absurd (omega arith)
term_is l n (suc t) p q = table_at_lem (λ i. term_at l (suc i)) n t no_term q

pub term-none : (l : List ℕ) (n : ℕ) → term_in (terms_view l n) 0 ≡ no_term
unfolding term_in
term-none l n = refl

pub term-past : (l : List ℕ) (n t : ℕ) → n < t → term_in (terms_view l n) t ≡ no_term
unfolding term_in
term-past l n zero q = absurd (omega arith)
term-past l n (suc t) q = table-past (λ i. term_at l (suc i)) n t no_term (omega arith)

pub cell-is : (l : List ℕ) (n c : ℕ) → 0 < c → c ≤ n → cell_in (cells_view l n) c ≡ cell_at l c
unfolding cell_in
cell-is l n zero p q = absurd (omega arith)
cell-is l n (suc c) p q = table_at_lem (λ i. cell_at l (suc i)) n c no_cell q

-- the fields of a counted record, as the readers of src/fields.rt give them
module _ (l : List ℕ) (n t x : ℕ) (h : within n t ≡ true) where
  term_at_lem : term_in (terms_view l n) t ≡ term_at l t
  term_at_lem = term_is l n t (within_low n t h) (within-high n t h)

  pub kind_at : x ≡ (term_at l t).kind → x ≡ (term_in (terms_view l n) t).kind
  kind_at e = rw term_at_lem e

  pub first-at : x ≡ (term_at l t).first → x ≡ (term_in (terms_view l n) t).first
  first-at e = rw term_at_lem e

  pub second_at : x ≡ (term_at l t).second → x ≡ (term_in (terms_view l n) t).second
  second_at e = rw term_at_lem e

  cell_at_lem : cell_in (cells_view l n) t ≡ cell_at l t
  cell_at_lem = cell-is l n t (within_low n t h) (within-high n t h)

  pub value-at : x ≡ (cell_at l t).value → x ≡ (cell_in (cells_view l n) t).value
  value-at e = rw cell_at_lem e

  pub other_at : x ≡ (cell_at l t).other → x ≡ (cell_in (cells_view l n) t).other
  other_at e = rw cell_at_lem e

  pub next_at_lem : x ≡ (cell_at l t).next → x ≡ (cell_in (cells_view l n) t).next
  next_at_lem e = rw cell_at_lem e

-- a part of a slice is a span
pub part-span : (l : List ℕ) (p n : ℕ) → p + n ≤ length l → take n (drop p l) ≡ span l p n
part-span l p n h =
    let m = table-length (λ i. get_or l (p + i) 0) n in
    let e : length (take n (drop p l)) ≡ length (span l p n) = simp (length-take, length-drop, table-length) (omega arith) in
    ext_get_or 0 _ _ e (λ i q.
    let r : i < n = omega arith in
    get_or-take n (drop p l) i 0 r ∙ get_or-drop p l i 0 ∙ sym (table_at_lem (λ j. get_or l (p + j) 0) n i 0 r))

-- a text within the count is read from its words
pub text-span : (l : List ℕ) (n : ℕ) (t : Term) → t.first + t.second ≤ n → text_in (chars_view l n) t ≡ span l t.first t.second
unfolding text_in
text-span l n t h =
    let k = table-length (λ i. get_or l i 0) n in
    let e : length (take t.second (drop t.first (chars_view l n))) ≡ length (span l t.first t.second)
    = simp (length-take, length-drop, table-length) (omega arith) in
    let m = table-length (λ i. get_or l (t.first + i) 0) t.second in
    ext_get_or 0 _ _ e (λ i q.
    let r : i < t.second = omega arith in
    get_or-take t.second (drop t.first (chars_view l n)) i 0 r ∙ get_or-drop t.first (chars_view l n) i 0
    ∙ table_at_lem (λ j. get_or l j 0) n (t.first + i) 0 (omega arith) ∙ sym (table_at_lem (λ j. get_or l (t.first + j) 0) t.second i 0 r))

-- FAITHFUL: equal views are equal words up to the counts; of terms, the eight words of each record. Heads and ninth words are in no view, but that of
-- record 0, which stands with it in the room

module _ {A : Type 0} where
  pub table_is : (f g : ℕ → A) (n i : ℕ) → table f n ≡ table g n → i < n → f i ≡ g i
  table_is f g n i e h = sym (table_at_lem f n i (f i) h) ∙ ap (λ (l : List A). get_or l i (f i)) e ∙ table_at_lem g n i (f i) h

-- records of w words, each word read from its place: equal records are equal words
module _ {R : Type 0} (w : ℕ) (read : List ℕ → ℕ → R) (word : ℕ → R → ℕ) (is : (l : List ℕ) (t k : ℕ) → k < w → word k (read l t) ≡ get_or l (w * t + k) 0) where
  words_same : (l l' : List ℕ) (lo hi : ℕ) → 0 < w → ((t : ℕ) → lo ≤ t → t < hi → read l t ≡ read l' t) → (i : ℕ) → w * lo ≤ i → i < w * hi → get_or l i 0 ≡ get_or l' i 0
  words_same l l' lo hi p f i a b =
      let q : i % w < w = mod-lt i p in
      let over = lt-mul-div-succ i p in
      let under = mul-div-le i w in
      let c : lo < i / w + 1 = lt_of_mul-lt-mul_left w (omega arith) in
      let d : i / w < hi = lt_of_mul-lt-mul_left w (omega arith) in
      let e = sym (is l (i / w) (i % w) q) ∙ ap (word (i % w)) (f (i / w) (omega arith) d) ∙ is l' (i / w) (i % w) q in rw (div-add-mod i w) at e

term_word : ℕ → Term → ℕ
term_word zero r = r.kind
term_word (suc zero) r = r.first
term_word (suc (suc zero)) r = r.second
term_word (suc (suc (suc zero))) r = r.class_parent
term_word (suc (suc (suc (suc zero)))) r = r.forest_parent
term_word (suc (suc (suc (suc (suc zero))))) r = r.label_kind
term_word (suc (suc (suc (suc (suc (suc zero)))))) r = r.label_value
term_word (suc (suc (suc (suc (suc (suc (suc k))))))) r = r.stamp

term_word_is : (l : List ℕ) (t k : ℕ) → k < 8 → term_word k (term_at l t) ≡ get_or l (term_place t k) 0
unfolding term_word
term_word_is l t zero h = refl
term_word_is l t (suc zero) h = refl
term_word_is l t (suc (suc zero)) h = refl
term_word_is l t (suc (suc (suc zero))) h = refl
term_word_is l t (suc (suc (suc (suc zero)))) h = refl
term_word_is l t (suc (suc (suc (suc (suc zero))))) h = refl
term_word_is l t (suc (suc (suc (suc (suc (suc zero)))))) h = refl
term_word_is l t (suc (suc (suc (suc (suc (suc (suc zero))))))) h = refl
term_word_is l t (suc (suc (suc (suc (suc (suc (suc (suc k)))))))) h = absurd (omega arith)

cell_word : ℕ → Cell → ℕ
cell_word zero r = r.value
cell_word (suc zero) r = r.other
cell_word (suc (suc k)) r = r.next

cell_word_is : (l : List ℕ) (c k : ℕ) → k < cell_width → cell_word k (cell_at l c) ≡ get_or l (cell_place c k) 0
unfolding cell_word
cell_word_is l c zero h = refl
cell_word_is l c (suc zero) h = refl
cell_word_is l c (suc (suc zero)) h = refl
cell_word_is l c (suc (suc (suc k))) h = absurd (omega arith)

pair_word : ℕ → ℕ × ℕ → ℕ
pair_word zero p = p.0
pair_word (suc k) p = p.1

pair_word_is : (l : List ℕ) (i k : ℕ) → k < 2 → pair_word k (pair_at l i) ≡ get_or l (2 * i + k) 0
unfolding pair_word
pair_word_is l i zero h = refl
pair_word_is l i (suc zero) h = refl
pair_word_is l i (suc (suc k)) h = absurd (omega arith)

-- record 0, and a table from record 1 on
from_zero : {A : Type 0} (f g : ℕ → A) (n : ℕ) → f 0 ≡ g 0 → table (λ i. f (suc i)) n ≡ table (λ i. g (suc i)) n → (t : ℕ) → t < n + 1 → f t ≡ g t
from_zero f g n z e zero b = z
from_zero f g n z e (suc t) b = table_is (λ i. f (suc i)) (λ i. g (suc i)) n t e (omega arith)

module _ (l l' : List ℕ) (n : ℕ) where
  pub terms-words : term_at l 0 ≡ term_at l' 0 → terms_view l n ≡ terms_view l' n → (t k : ℕ) → t ≤ n → k < 8 → get_or l (term_place t k) 0 ≡ get_or l' (term_place t k) 0
  terms-words z e t k b h = sym (term_word_is l t k h) ∙ ap (term_word k) (from_zero (term_at l) (term_at l') n z e t (omega arith)) ∙ term_word_is l' t k h

  pub cells-words : cell_at l 0 ≡ cell_at l' 0 → cells_view l n ≡ cells_view l' n → (i : ℕ) → i < cell_words n → get_or l i 0 ≡ get_or l' i 0
  cells-words z e i b = words_same cell_width cell_at cell_word cell_word_is l l' 0 (n + 1) (omega arith) (λ t a. from_zero (cell_at l) (cell_at l') n z e t) i (omega arith) b

  pub chars-words : chars_view l n ≡ chars_view l' n → (i : ℕ) → i < n → get_or l i 0 ≡ get_or l' i 0
  chars-words e i h = table_is (λ j. get_or l j 0) (λ j. get_or l' j 0) n i e h

  pub pairs-words : pairs_view l n ≡ pairs_view l' n → (i : ℕ) → i < 2 * n → get_or l i 0 ≡ get_or l' i 0
  pairs-words e i h = words_same 2 pair_at pair_word pair_word_is l l' 0 n (omega arith) (λ t a b. table_is (pair_at l) (pair_at l') n t e b) i (omega arith) h

-- VIEWS THAT AGREE

-- equal words are equal records: of a term, the eight words that are its record
module _ (l l' : List ℕ) (t : ℕ) where
  pub term-same : ((k : ℕ) → k < 8 → get_or l' (term_place t k) 0 ≡ get_or l (term_place t k) 0) → term_at l' t ≡ term_at l t
  term-same h =
      let a0 = h 0 (omega arith) in
      let a1 = h 1 (omega arith) in
      let a2 = h 2 (omega arith) in
      let a3 = h 3 (omega arith) in
      let a4 = h 4 (omega arith) in
      let a5 = h 5 (omega arith) in
      let a6 = h 6 (omega arith) in
      let a7 = h 7 (omega arith) in cc

  cell_same : ((k : ℕ) → k < cell_width → get_or l' (cell_place t k) 0 ≡ get_or l (cell_place t k) 0) → cell_at l' t ≡ cell_at l t
  cell_same h =
      let a0 = h 0 (omega arith) in
      let a1 = h 1 (omega arith) in
      let a2 = h 2 (omega arith) in cc

-- record 0 of terms is known from its record and its ninth word
pub zero_term-same : (l l' : List ℕ) → term_at l' 0 ≡ term_at l 0 → next_at l' 0 ≡ next_at l 0 → zero_term l' ≡ zero_term l
unfolding zero_term
zero_term-same l l' a b = cc

-- the words below a record decide the records before it, record 0 too
module _ (l l' : List ℕ) (n : ℕ) (h : (j : ℕ) → j < term_words n → get_or l' j 0 ≡ get_or l j 0) where
  term-agrees : (t : ℕ) → t ≤ n → term_at l' t ≡ term_at l t
  term-agrees t b = term-same l l' t (λ k c. h (term_place t k) (omega arith))

  pub terms-agree : terms_view l' n ≡ terms_view l n
  terms-agree = table_same (λ i. term_at l' (suc i)) (λ i. term_at l (suc i)) n (λ i b. term-agrees (suc i) (omega arith))

  pub zero_term-agrees : zero_term l' ≡ zero_term l
  zero_term-agrees = zero_term-same l l' (term-agrees 0 (omega arith)) (h (term_place 0 8) (omega arith))

pub pairs-agree : (l l' : List ℕ) (n : ℕ) → ((j : ℕ) → j < 2 * n → get_or l' j 0 ≡ get_or l j 0) → pairs_view l' n ≡ pairs_view l n
pairs-agree l l' n h = table_same (pair_at l') (pair_at l) n (λ i b.
    let a0 = h (2 * i + 0) (omega arith) in
    let a1 = h (2 * i + 1) (omega arith) in cc)

module _ (l l' : List ℕ) (n : ℕ) (h : (j : ℕ) → j < cell_words n → get_or l' j 0 ≡ get_or l j 0) where
  cell-agrees : (c : ℕ) → c ≤ n → cell_at l' c ≡ cell_at l c
  cell-agrees c b = cell_same l l' c (λ k d. h (cell_place c k) (omega arith))

  pub cells_agree : cells_view l' n ≡ cells_view l n
  cells_agree = table_same (λ i. cell_at l' (suc i)) (λ i. cell_at l (suc i)) n (λ i b. cell-agrees (suc i) (omega arith))

  pub zero_cell-agrees : zero_cell l' ≡ zero_cell l
  unfolding zero_cell
  zero_cell-agrees = cell-agrees 0 (omega arith)

-- WHAT IS KEPT

-- slices that keep what is counted keep record 0 of terms, its ninth word too, and of cells
pub record SameZero (m m' : Lent) : Type 0 where
  pub terms : term_at m'.terms 0 ≡ term_at m.terms 0
  pub ninth : next_at m'.terms 0 ≡ next_at m.terms 0
  pub cells : cell_at m'.cells 0 ≡ cell_at m.cells 0

pub zero-kept : (m m' : Lent) (c : State) → KeepsStore m m' c → SameZero m m'
unfolding zero_term zero_cell
zero-kept m m' c e = record {
  terms = ap (λ (s : Store). s.room.zero_term.0) e;
  ninth = ap (λ (s : Store). s.room.zero_term.1) e;
  cells = ap (λ (s : Store). s.room.zero_cell) e;
}

-- and each word of what is counted and of record 0; of counted terms the eight words of the record, since the index is no part of the store
pub record SameWords (m m' : Lent) (c : State) : Type 0 where
  pub terms : (t k : ℕ) → t ≤ c.terms → k < 8 → get_or m'.terms (term_place t k) 0 ≡ get_or m.terms (term_place t k) 0
  pub ninth : next_at m'.terms 0 ≡ next_at m.terms 0
  pub cells : (i : ℕ) → i < cell_words c.cells → get_or m'.cells i 0 ≡ get_or m.cells i 0
  pub chars : (i : ℕ) → i < c.chars → get_or m'.chars i 0 ≡ get_or m.chars i 0
  pub reasons : (i : ℕ) → i < 2 * c.reasons → get_or m'.reasons i 0 ≡ get_or m.reasons i 0
  pub keys : (i : ℕ) → i < 2 * c.keys → get_or m'.keys i 0 ≡ get_or m.keys i 0

pub view_faithful : (m m' : Lent) (c : State) → KeepsStore m m' c → SameWords m m' c
view_faithful m m' c e = record {
  terms = terms-words m'.terms m.terms c.terms (zero-kept m m' c e).terms (ap (λ (s : Store). s.terms) e);
  ninth = (zero-kept m m' c e).ninth;
  cells = cells-words m'.cells m.cells c.cells (zero-kept m m' c e).cells (ap (λ (s : Store). s.cells) e);
  chars = chars-words m'.chars m.chars c.chars (ap (λ (s : Store). s.chars) e);
  reasons = pairs-words m'.reasons m.reasons c.reasons (ap (λ (s : Store). s.reasons) e);
  keys = pairs-words m'.keys m.keys c.keys (ap (λ (s : Store). s.keys) e);
}

-- a span compared with a part of its slice
pub agree-part : (l : List ℕ) (p a n : ℕ) (r : Bool) → a + n ≤ length l
    → r ≡ same_word (span l p (length (take (a + n - a) (drop a l)))) (take (a + n - a) (drop a l)) → r ≡ same_word (span l p n) (span l a n)
agree-part l p a n r h e =
    let q : a + n - a ≡ n = omega arith in
    let f = rw (q, part-span l a n h) at e in
    rw (table-length (λ i. get_or l (a + i) 0) n) at f

-- a number with a kind names a counted term, and its text stands in the lent characters
pub term-there : (l : List ℕ) (c : State) (t k : ℕ) → kind (termed l c) t ≡ suc k → term (termed l c) t ≡ term_at l t
term-there l c t k e =
    let q = kind-term (termed l c) t k e in
    let w = rw (table-length (λ i. term_at l (suc i)) c.terms) at q in
    term_is l c.terms t (within_low _ t w) (within-high _ t w)

pub text-words : (w h : List ℕ) (c : State) (a k : ℕ) → kind (termed w c) a ≡ suc k → (term (termed w c) a).first + (term (termed w c) a).second ≤ c.chars
    → text (read_in w h c) a ≡ span h (term_at w a).first (term_at w a).second
text-words w h c a k e q =
    text-span h c.chars (term (termed w c) a) q
    ∙ ap (λ (t : Term). span h t.first t.second) (term-there w c a k e)
