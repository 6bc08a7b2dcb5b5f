-- Buckets as the code adds them up: the remainder by 64 of what was added, and of what is left, is that of all.
use mathlib.Core.Path.{◌≡◌, refl, sym, ap, ◌∙◌}
use mathlib.Core.Bool.{Bool, true, false}
use mathlib.Core.List.{List, [], ◌∷◌, ◌++◌}
use Prim.Native.Nat.{ℕ, suc, ◌+◌, ◌-◌, ◌%◌, ◌≤◌, ◌<◌}
use native.Mathlib.Numerals.{add-one}
use native.Mathlib.Omega.{arith}
use lib.ListN.{length, get_or, take, drop, drop_of_length-le}
use lib.Seq.{drop-cons}
use borrow.Author.Tests.{ne_eqb}
use Rattle.records.specs.declared.State.{State}
use Rattle.records.specs.Lists.{concat_map, firsts}
use Rattle.records.specs.Store.{Term, Cell, Store, within, kind, term, text, chain_in}
use Rattle.records.specs.View.{buckets, term_at, cell_at, text_at, span, cells_view, records_in}
use Rattle.records.specs.Index.{numbers, sum, bucket_of, bucket}
use Rattle.records.specs.Working.Audited.{Ascends}
use Rattle.records.specs.Working.Puts.{TextsWithin}
use Rattle.records.specs.Working.Indexing.{Bucketed}
use Rattle.records.proofs.Lists.{within_low, within-high, within-is, every_at, table-length}
use Rattle.records.proofs.Chains.{chain-none, chain-is}
use Rattle.records.proofs.Views.{term_is, cell-is, part-span, text-span}
use Rattle.records.proofs.IndexSays.{bucket-small}
use Rattle.records.proofs.IndexFinds.{bucket-is, constant-numbers, variable-numbers, concat-numbers, length-numbers}

-- SUMS

pub sum-append : (v w : List ℕ) → sum (v ++ w) ≡ sum v + sum w
unfolding sum
sum-append [] w = omega arith
sum-append (x ∷ v) w = let e = sum-append v w in omega arith

-- nothing is left; one number more; a word more
pub bucket-nil : (b : ℕ) → b < buckets → bucket_of b [] ≡ b
unfolding bucket_of sum
bucket-nil b h = omega arith

pub bucket-cons : (b x : ℕ) (l : List ℕ) → bucket_of b (x ∷ l) ≡ bucket_of ((b + x) % buckets) l
unfolding bucket_of sum
bucket-cons b x l = omega arith

pub bucket-append : (b : ℕ) (v w : List ℕ) → bucket_of b (v ++ w) ≡ bucket_of ((b + bucket_of 0 v) % buckets) w
unfolding bucket_of
bucket-append b v w = let e = sum-append v w in omega arith

pub bucket-kind : (k : ℕ) (l : List ℕ) → bucket_of (k % buckets) l ≡ bucket_of k l
unfolding bucket_of
bucket-kind k l = omega arith

-- a second word that is 0 adds nothing: the bucket of a length by both its words
pub bucket-zero : (k x : ℕ) → bucket_of k (x ∷ 0 ∷ []) ≡ bucket_of k (x ∷ [])
unfolding bucket_of sum
bucket-zero k x = omega arith

pub bucket-low : (k : ℕ) (l : List ℕ) (r : ℕ) → r ≡ bucket_of k l → r < buckets
bucket-low k l r e = let h = bucket-small k l in omega arith

-- BUCKETS AS ONE ADDS

-- b is the bucket so far, and what is left makes it the whole bucket a
pub record Adding (a b : ℕ) (left : List ℕ) : Type 0 where
  pub small : b < buckets
  pub whole : bucket_of b left ≡ a

module _ {a b : ℕ} where
  pub adding_one : {x : ℕ} {l : List ℕ} (r : ℕ) → Adding a b (x ∷ l) → r ≡ (b + x) % buckets → Adding a r l
  adding_one {x = x} {l = l} r p e = record { small = omega arith; whole = ap (λ (y : ℕ). bucket_of y l) e ∙ sym (bucket-cons b x l) ∙ p.whole }

  pub adding_word : (v w : List ℕ) (r : ℕ) → Adding a b (v ++ w) → r ≡ (b + bucket_of 0 v) % buckets → Adding a r w
  adding_word v w r p e = record { small = omega arith; whole = ap (λ (y : ℕ). bucket_of y w) e ∙ sym (bucket-append b v w) ∙ p.whole }

  pub adding_done : Adding a b [] → b ≡ a
  adding_done p = sym (bucket-nil b p.small) ∙ p.whole

-- A LIST

-- the numbers of l from place i on are left
abbrev pub AddingFrom : ℕ → List ℕ → ℕ → ℕ → Type 0
AddingFrom a l b i = Adding a b (drop i l)

pub list-start : (k b : ℕ) (l : List ℕ) → b ≡ k % buckets → AddingFrom (bucket_of k l) l b 0
list-start k b l e = record { small = omega arith; whole = ap (λ (y : ℕ). bucket_of y l) e ∙ bucket-kind k l }

module _ (a : ℕ) (l : List ℕ) (b i : ℕ) (p : AddingFrom a l b i) where
  pub list-turn : (r : ℕ) → i < length l → r ≡ (b + get_or l i 0) % buckets → AddingFrom a l r (i + 1)
  list-turn r h e = rw (add-one i) (adding_one r (rw (drop-cons l i 0 h) at p) e)

  pub list_done : length l ≤ i → b ≡ a
  list_done h = adding_done (rw (drop_of_length-le l h) at p)

pub sides-added : (k x y c r s : ℕ) → c ≡ k % buckets → r ≡ (c + x) % buckets → s ≡ (r + y) % buckets → s ≡ bucket_of k (x ∷ y ∷ [])
unfolding bucket_of sum
sides-added k x y c r s p q e = omega arith

-- TEXTS

pub text-bucket : (h : List ℕ) (k p n r : ℕ) → p + n ≤ length h → r ≡ bucket_of k (take (p + n - p) (drop p h)) → r ≡ bucket_of k (span h p n)
text-bucket h k p n r b e = let q : p + n - p ≡ n = omega arith in rw (q, part-span h p n b) at e

-- the texts of a list of terms from place i on are left
module _ (l h₀ : List ℕ) (ts : List ℕ) where
  abbrev pub JoinedFrom : ℕ → ℕ → ℕ → Type 0
  JoinedFrom a b i = Adding a b (concat_map (text_at l h₀) (drop i ts))

  pub joined-start : JoinedFrom (bucket_of 1 (concat_map (text_at l h₀) ts)) 1 0
  joined-start = record { small = omega arith; whole = refl }

  -- the text of the term at place i, of y characters from x on
  module _ (i x y : ℕ) (h : i < length ts) (ex : x ≡ (term_at l (get_or ts i 0)).first) (ey : y ≡ (term_at l (get_or ts i 0)).second) where
    pub joined-within : (n : ℕ) → TextsWithin l n ts → x + y ≤ n
    joined-within n w = let z = every_at ts i 0 w h in omega arith

    pub joined-turn : (a b r : ℕ) → JoinedFrom a b i → r ≡ bucket_of 0 (span h₀ x y) → JoinedFrom a ((b + r) % buckets) (i + 1)
    unfolding concat_map
    joined-turn a b r p g =
        rw (add-one i) (adding_word (text_at l h₀ (get_or ts i 0)) (concat_map (text_at l h₀) (drop (suc i) ts)) ((b + r) % buckets) (rw (drop-cons ts i 0 h) at p)
        (ap (λ (z : ℕ). (b + z) % buckets) (rw (ex, ey) at g)))

  pub joined-done : (a b i : ℕ) → JoinedFrom a b i → length ts ≤ i → b ≡ a
  unfolding concat_map
  joined-done a b i p q = adding_done (rw (drop_of_length-le ts q) at p)

-- CHAINS

module _ (e : List ℕ) (n : ℕ) (up : Ascends (cells_view e n)) where
  abbrev cells : List Cell
  cells = cells_view e n

  -- the parts from cell c on are left
  abbrev pub ChainFrom : ℕ → ℕ → ℕ → Type 0
  ChainFrom a b c = Adding a b (firsts (chain_in cells c))

  many : length cells ≡ n
  many = table-length (λ i. cell_at e (suc i)) n

  one_cell : (c : ℕ) → within n c ≡ true → chain_in cells c ≡ ((cell_at e c).value, (cell_at e c).other) ∷ chain_in cells (cell_at e c).next
  one_cell c w =
      chain-is cells c up (rw many w)
      ∙ ap (λ (x : Cell). (x.value, x.other) ∷ chain_in cells x.next) (cell-is e n c (within_low n c w) (within-high n c w))

  module _ (c : ℕ) (x : Bool) (is : x ≡ within n c) where
    module _ (w : x ≡ true) where
      here-cell : chain_in cells c ≡ ((cell_at e c).value, (cell_at e c).other) ∷ chain_in cells (cell_at e c).next
      here-cell = one_cell c (sym is ∙ w)

      pub chain-shorter : (d : ℕ) → d ≡ (cell_at e c).next → length (chain_in cells d) < length (chain_in cells c)
      chain-shorter d q = rw (q, here-cell) (omega arith)

      pub chain-turn : (a b v r d : ℕ) → ChainFrom a b c → v ≡ (cell_at e c).value → r ≡ (b + v) % buckets → d ≡ (cell_at e c).next → ChainFrom a r d
      unfolding firsts
      chain-turn a b v r d p f g q = rw q (adding_one r (rw here-cell at p) (rw f at g))

    pub chain-done : (a b : ℕ) → ChainFrom a b c → x ≡ false → b ≡ a
    unfolding firsts
    chain-done a b p w = adding_done (rw (chain-none cells c (rw many (sym is ∙ w))) at p)

pub chain-start : (e : List ℕ) (n f : ℕ) → Adding (bucket_of 3 (firsts (chain_in (cells_view e n) f))) 3 (firsts (chain_in (cells_view e n) f))
chain-start e n f = record { small = omega arith; whole = refl }

-- A TERM

module _ (l e h : List ℕ) (c : State) (t : ℕ) (w : within c.terms t ≡ true) where
  abbrev here : Store
  here = records_in l e h c

  at : term here t ≡ term_at l t
  at = term_is l c.terms t (within_low _ t w) (within-high _ t w)

  module _ (k x y : ℕ) (ek : k ≡ (term_at l t).kind) (ex : x ≡ (term_at l t).first) (ey : y ≡ (term_at l t).second) where
    kind_is : (j : ℕ) → k ≡ j → kind here t ≡ j
    kind_is j q = ap (λ (r : Term). r.kind) at ∙ sym ek ∙ q

    first_is : (term here t).first ≡ x
    first_is = ap (λ (r : Term). r.first) at ∙ sym ex

    second_is : (term here t).second ≡ y
    second_is = ap (λ (r : Term). r.second) at ∙ sym ey

    module _ (good : Bucketed here) where
      text-counted : within 2 k ≡ true → x + y ≤ c.chars
      text-counted v =
          let z = good.texts t (rw (kind_is k refl) v) in
          let i = first_is in
          let j = second_is in
          let m = table-length (λ i. get_or h i 0) c.chars in omega arith

      pub text-within : within 2 k ≡ true → c.chars ≤ length h → x + y ≤ length h
      text-within v r = let z = text-counted v in omega arith

      text-here : within 2 k ≡ true → text here t ≡ span h x y
      text-here v =
          let z = text-counted v in
          let i = first_is in
          let j = second_is in
          text-span h c.chars (term here t) (omega arith) ∙ rw (i, j)

      pub constant-bucket : (r : ℕ) → k ≡ 1 → r ≡ bucket_of 1 (span h x y) → r ≡ bucket here t
      constant-bucket r q z =
          let v : within 2 k ≡ true = rw q (within-is 2 1 (omega arith) (omega arith)) in
          z ∙ sym (bucket-is here t 1 (span h x y) (kind_is 1 q) (constant-numbers here t (kind_is 1 q) ∙ text-here v))

      pub variable-bucket : (r : ℕ) → k ≡ 2 → r ≡ bucket_of 2 (span h x y) → r ≡ bucket here t
      variable-bucket r q z =
          let v : within 2 k ≡ true = rw q (within-is 2 2 (omega arith) (omega arith)) in
          z ∙ sym (bucket-is here t 2 (span h x y) (kind_is 2 q) (variable-numbers here t (kind_is 2 q) ∙ text-here v))

    pub concat-bucket : (r : ℕ) → k ≡ 3 → r ≡ bucket_of 3 (firsts (chain_in (cells_view e c.cells) x)) → r ≡ bucket here t
    concat-bucket r q z =
        z ∙ sym (bucket-is here t 3 _ (kind_is 3 q) (concat-numbers here t (kind_is 3 q) ∙ ap (λ (i : ℕ). firsts (chain_in (cells_view e c.cells) i)) first_is))

    pub length-bucket : (r : ℕ) → k ≡ 4 → r ≡ bucket_of 4 (x ∷ 0 ∷ []) → r ≡ bucket here t
    length-bucket r q z =
        z ∙ bucket-zero 4 x
        ∙ sym (bucket-is here t 4 (x ∷ []) (kind_is 4 q) (length-numbers here t (kind_is 4 q) ∙ ap (λ (i : ℕ). i ∷ []) first_is))

    other-numbers : (k ≡ 1 → ⊥) → (k ≡ 2 → ⊥) → (k ≡ 3 → ⊥) → (k ≡ 4 → ⊥) → numbers here t ≡ x ∷ y ∷ []
    unfolding numbers
    other-numbers d1 d2 d3 d4 =
        rw (ne_eqb (kind here t) 1 (other d1), ne_eqb (kind here t) 2 (other d2), ne_eqb (kind here t) 3 (other d3), ne_eqb (kind here t) 4 (other d4), first_is, second_is)
      where
        other : {j : ℕ} → (k ≡ j → ⊥) → kind here t ≡ j → ⊥
        other d q = d (sym (kind_is k refl) ∙ q)

    pub other-bucket : (r : ℕ) → (k ≡ 1 → ⊥) → (k ≡ 2 → ⊥) → (k ≡ 3 → ⊥) → (k ≡ 4 → ⊥) → r ≡ bucket_of k (x ∷ y ∷ []) → r ≡ bucket here t
    other-bucket r d1 d2 d3 d4 z = z ∙ sym (bucket-is here t k (x ∷ y ∷ []) (kind_is k refl) (other-numbers d1 d2 d3 d4))
