-- Places of the characters that are used, and the characters that stand there.
use Rattle.std.specs.Prelude.{if◌then◌else◌}
use mathlib.Core.Path.{◌≡◌, refl, sym, ap, ◌∙◌}
use mathlib.Core.Bool.{Bool, true, false, ◌||◌}
use mathlib.Core.List.{List, [], ◌∷◌, ◌++◌, append-nil}
use mathlib.Core.Logic.{⊎_elim}
use Prim.Native.Nat.{ℕ, zero, suc, ◌+◌, ◌-◌, ◌<◌, ◌≤◌}
use native.Mathlib.Nat.{eq-or-lt_of_le, le_of_suc-le-suc, not-suc-le-zero}
use native.Mathlib.Numerals.{add-one}
use native.Mathlib.Omega.{arith}
use lib.ListN.{take, drop, take-append-drop, length, get_or, set, replicate, length-set, length-replicate, get_or-replicate}
use lib.Seq.{paste, get_or-set_same, get_or-set_other}
use lib.Dec.{eqb}
use borrow.Rule.Slice.PartMut.{put_mid}
use Rattle.std.proofs.lemmas.Slice.{put_mid-paste}
use Rattle.std.proofs.lemmas.List.Edits.{fill_from_more}
use borrow.Author.Tests.{eqb-true, eq-eqb, ne_eqb}
use Rattle.records.specs.Lists.{any, table, is_in}
use Rattle.records.specs.View.{span}
use Rattle.records.proofs.Lists.{any_append, any-stays, any-stop, or_right, or_none_lem, decide}
use Rattle.sides.specs.Working.Lacking.{used_at, seen, used}

-- ONE PLACE

module _ (h t : List ℕ) (x i : ℕ) where
  pub used-none : get_or t i 0 ≡ 0 → false ≡ used_at h t x i
  unfolding used_at
  used-none e = rw (eq-eqb (get_or t i 0) 0 e)

  pub used-is : (get_or t i 0 ≡ 0 → ⊥) → eqb x (get_or h i 0) ≡ used_at h t x i
  unfolding used_at
  used-is e = rw (ne_eqb (get_or t i 0) 0 e)

used-other : (h t : List ℕ) (x k i : ℕ) → (i ≡ k → ⊥) → used_at h (set t k 1) x i ≡ used_at h t x i
unfolding used_at
used-other h t x k i d = rw (get_or-set_other t k i 1 0 d)

used-same : (h t : List ℕ) (x k : ℕ) → k < length t → used_at h (set t k 1) x k ≡ eqb x (get_or h k 0)
unfolding used_at
used-same h t x k l = rw (get_or-set_same t k 1 0 l)

-- THE FIRST N PLACES

pub seen_here : (h t : List ℕ) (n i : ℕ) → i < n → (get_or t i 0 ≡ 0 → ⊥) → true ≡ seen h t n (get_or h i 0)
unfolding seen
seen_here h t n i l e = sym (any-stays (used_at h t (get_or h i 0)) (λ j. j) n i l (sym (used-is h t (get_or h i 0) i e) ∙ eq-eqb (get_or h i 0) (get_or h i 0) refl))

any-more : {A : Type 0} (p : A → Bool) (f : ℕ → A) (n : ℕ) → any p (table f (suc n)) ≡ (any p (table f n) || p (f n))
unfolding any table
any-more p f n = any_append p (table f n) (f n ∷ []) ∙ ap (λ (b : Bool). any p (table f n) || b) (or_none_lem (p (f n)))

seen-zero : (h t : List ℕ) (x : ℕ) → seen h t 0 x ≡ false
unfolding seen any table
seen-zero h t x = refl

seen-suc : (h t : List ℕ) (n x : ℕ) → seen h t (suc n) x ≡ (seen h t n x || used_at h t x n)
unfolding seen
seen-suc h t n x = any-more (used_at h t x) (λ i. i) n

-- none of the first i places
pub record Unseen (h t : List ℕ) (n x i : ℕ) : Type 0 where
  pub within : i ≤ n
  pub none : seen h t i x ≡ false

pub unseen_none : (h t : List ℕ) (n x : ℕ) → Unseen h t n x 0
unseen_none h t n x = record { within = omega arith; none = seen-zero h t x }

module _ (h t : List ℕ) (n x i : ℕ) (a : Unseen h t n x i) where
  module _ (b : Bool) (e : b ≡ used_at h t x i) (q : i < n) where
    pub unseen_stop : b ≡ true → true ≡ seen h t n x
    unfolding seen
    unseen_stop z = any-stop (used_at h t x) (λ j. j) n i b e z q

    pub unseen_one : b ≡ false → Unseen h t n x (i + 1)
    unseen_one z = record { within = omega arith; none = rw add-one (seen-suc h t i x ∙ (let f = a.none in let g = sym e ∙ z in rw (f, g))) }

-- nothing is used at first
pub seen_none : (h : List ℕ) (m n x : ℕ) → n ≤ m → seen h (replicate m 0) n x ≡ false
seen_none h m zero x q = seen-zero h (replicate m 0) x
seen_none h m (suc n) x q =
    seen-suc h (replicate m 0) n x
    ∙ (let e = seen_none h m n x (omega arith) in
    let f = used-none h (replicate m 0) x n (get_or-replicate m n 0 0 q) in rw (e, sym f))

-- a place past n
seen-past : (h t : List ℕ) (n k x : ℕ) → n ≤ k → seen h (set t k 1) n x ≡ seen h t n x
seen-past h t zero k x q = seen-zero h (set t k 1) x ∙ sym (seen-zero h t x)
seen-past h t (suc n) k x q =
    seen-suc h (set t k 1) n x
    ∙ (let e = seen-past h t n k x (omega arith) in
    let f = used-other h t x k n (λ z. omega arith) in rw (e, f))
    ∙ sym (seen-suc h t n x)

pub or_assoc : (a b c : Bool) → ((a || b) || c) ≡ (a || (b || c))
or_assoc true b c = refl
or_assoc false b c = refl

or_swap : (a b c : Bool) → ((a || b) || c) ≡ ((a || c) || b)
or_swap true b c = refl
or_swap false true true = refl
or_swap false true false = refl
or_swap false false true = refl
or_swap false false false = refl

used-under : (h t : List ℕ) (x k : ℕ) (a : Bool) → ((a || used_at h t x k) || eqb x (get_or h k 0)) ≡ (a || eqb x (get_or h k 0))
unfolding used_at
used-under h t x k a = go (eqb (get_or t k 0) 0) a (eqb x (get_or h k 0))
  where
    go : (b a e : Bool) → ((a || (if b then false else e)) || e) ≡ (a || e)
    go b true e = refl
    go true false e = refl
    go false false true = refl
    go false false false = refl

-- one more place
pub seen-set : (h t : List ℕ) (n k x : ℕ) → k < n → k < length t → seen h (set t k 1) n x ≡ (seen h t n x || eqb x (get_or h k 0))
seen-set h t zero k x q l = absurd (not-suc-le-zero q)
seen-set h t (suc n) k x q l =
    ⊎_elim (λ e. here e) (λ b. before b (seen-set h t n k x b l)) (eq-or-lt_of_le (le_of_suc-le-suc q))
  where
    here : k ≡ n → seen h (set t k 1) (suc n) x ≡ (seen h t (suc n) x || eqb x (get_or h k 0))
    here e =
        ap (λ (z : ℕ). seen h (set t k 1) (suc z) x) (sym e)
        ∙ seen-suc h (set t k 1) k x
        ∙ (let f = seen-past h t k k x (omega arith) in
        let g = used-same h t x k l in rw (f, g))
        ∙ sym (used-under h t x k (seen h t k x))
        ∙ ap (λ (b : Bool). b || eqb x (get_or h k 0)) (sym (seen-suc h t k x))
        ∙ ap (λ (z : ℕ). seen h t (suc z) x || eqb x (get_or h k 0)) e

    before : k < n → seen h (set t k 1) n x ≡ (seen h t n x || eqb x (get_or h k 0)) → seen h (set t k 1) (suc n) x ≡ (seen h t (suc n) x || eqb x (get_or h k 0))
    before b f =
        seen-suc h (set t k 1) n x
        ∙ (let g = used-other h t x k n (λ z. omega arith) in rw (f, g))
        ∙ or_swap (seen h t n x) (eqb x (get_or h k 0)) (used_at h t x n)
        ∙ ap (λ (b : Bool). b || eqb x (get_or h k 0)) (sym (seen-suc h t n x))

-- a place more whose character is seen changes nothing
pub seen-again : (h t : List ℕ) (n k : ℕ) → k < n → k < length t → seen h t n (get_or h k 0) ≡ true → (x : ℕ) → seen h (set t k 1) n x ≡ seen h t n x
seen-again h t n k q l e x = seen-set h t n k x q l ∙ decide (eqb x (get_or h k 0)) (λ f. hit f) (λ f. rw f (or_none_lem (seen h t n x)))
  where
    hit : eqb x (get_or h k 0) ≡ true → (seen h t n x || eqb x (get_or h k 0)) ≡ seen h t n x
    hit f = or_right (seen h t n x) _ f ∙ sym (ap (seen h t n) (eqb-true x (get_or h k 0) f) ∙ e)

-- THE PLACES OF A TEXT

pub used-length : (t : List ℕ) (p n : ℕ) → length (used t p n) ≡ length t
unfolding used
used-length t p zero = refl
used-length t p (suc n) = length-set (used t p n) (p + n) 1 ∙ used-length t p n

-- the places of a text are filled
pub used-filled : (t : List ℕ) (p n : ℕ) (ys : List ℕ) → p + n ≤ length t → ys ≡ replicate n 1 → put_mid p (p + n - p) t ys ≡ used t p n
unfolding used
used-filled t p n ys l e = put_mid-paste p (p + n - p) t ys (replicate n 1) n e (omega arith) (sym (length-replicate n 1)) ∙ filled n l
  where
    filled : (k : ℕ) → p + k ≤ length t → paste t p (replicate k 1) k ≡ used t p k
    filled zero q =
        let z : p + 0 ≡ p = omega arith in
        ap (λ (y : ℕ). take p t ++ [] ++ drop y t) z ∙ ap (λ (y : List ℕ). y ++ drop p t) (append-nil (take p t)) ∙ take-append-drop p t
    filled (suc k) q =
        let z : k + 1 ≡ suc k = omega arith in
        sym (rw z at (fill_from_more t p k 1 (omega arith))) ∙ ap (λ (y : List ℕ). set y (p + k) 1) (filled k (omega arith))

is_in-more : (x : ℕ) (f : ℕ → ℕ) (n : ℕ) → is_in x (table f (suc n)) ≡ (is_in x (table f n) || eqb x (f n))
unfolding is_in
is_in-more x f n = any-more (eqb x) f n

is_in-none : (x : ℕ) (f : ℕ → ℕ) → is_in x (table f 0) ≡ false
unfolding is_in any table
is_in-none x f = refl

pub seen-used : (h t : List ℕ) (m p n x : ℕ) → p + n ≤ m → p + n ≤ length t → seen h (used t p n) m x ≡ (seen h t m x || is_in x (span h p n))
unfolding used
seen-used h t m p zero x q l = sym (ap (λ (b : Bool). seen h t m x || b) (is_in-none x (λ i. get_or h (p + i) 0)) ∙ or_none_lem (seen h t m x))
seen-used h t m p (suc n) x q l =
    let e = used-length t p n in
    seen-set h (used t p n) m (p + n) x (omega arith) (omega arith)
    ∙ ap (λ (b : Bool). b || eqb x (get_or h (p + n) 0)) (seen-used h t m p n x (omega arith) (omega arith))
    ∙ or_assoc (seen h t m x) (is_in x (span h p n)) (eqb x (get_or h (p + n) 0))
    ∙ ap (λ (b : Bool). seen h t m x || b) (sym (is_in-more x (λ i. get_or h (p + i) 0) n))
