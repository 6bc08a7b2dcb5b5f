-- Laws of tests, lists and numbers: none knows what a store is.
use Rattle.std.specs.Prelude.{if◌then◌else◌}
use Rattle.std.specs.List.{list_all}
use mathlib.Core.Path.{◌≡◌, refl, sym, ap, ◌∙◌}
use mathlib.Core.Bool.{Bool, true, false, not, ◌&&◌, ◌||◌, false≢true}
use mathlib.Core.List.{List, [], ◌∷◌, ◌++◌, append_assoc, Memᴰ}
use mathlib.Core.Logic.{◌⊎◌, inl, inr, ⊎_elim}
use mathlib.Core.Option.{Option, none, some}
use Prim.Native.Nat.{ℕ, zero, suc, ◌+◌, ◌≤◌, ◌<◌}
use native.Mathlib.Nat.{le_antisymm, eq-or-lt_of_le, le_of_suc-le-suc, not-suc-le-zero}
use native.Mathlib.Numerals.{add-one}
use native.Mathlib.Omega.{arith}
use lib.ListN.{length, take, drop, get_or, replicate, length-append, get_or-append, get_or-eq_default}
use lib.Seq.{get_or_at, drop-cons}
use lib.Dec.{eqb, ltb}
use lib.Pointwise.{pointwise}
use borrow.Author.Count.{below_more}
use borrow.Author.Tests.{not-true, not-false, eqb-true, eq-eqb, ltb-true, leb-true, lt-ltb, le-leb, le-ltb, lt-leb}
use Rattle.records.specs.Lists.{all, any, concat_map, table, same_word, firsts, seconds, all_below, first_below, last_below, Every, none_left, and}
use Rattle.records.specs.Store.{within}

-- TESTS

pub both_left : (a b : Bool) → a && b ≡ true → a ≡ true
both_left true b e = refl
both_left false b e = e

pub both_right : (a b : Bool) → a && b ≡ true → b ≡ true
both_right true b e = e
both_right false b e = absurd (false≢true e)

pub both_true : (a b : Bool) → a ≡ true → b ≡ true → a && b ≡ true
both_true true b p q = q
both_true false b p q = absurd (false≢true p)

pub left_false : (a b : Bool) → a ≡ false → a && b ≡ false
left_false true b e = absurd (false≢true (sym e))
left_false false b e = refl

pub right-false : (a b : Bool) → b ≡ false → a && b ≡ false
right-false true b e = e
right-false false b e = refl

pub either : (a b : Bool) → a || b ≡ true → (a ≡ true) ⊎ (b ≡ true)
either true b e = inl refl
either false b e = inr e

pub or_left : (a b : Bool) → a ≡ true → a || b ≡ true
or_left true b e = refl
or_left false b e = absurd (false≢true e)

pub or_right : (a b : Bool) → b ≡ true → a || b ≡ true
or_right true b e = refl
or_right false b e = e

-- a chain of `if`s that return early meets a chain of tests
pub and-stop : (a b : Bool) → a ≡ false → false ≡ (a && b)
and-stop a b e = sym (left_false a b e)

pub and-next : (a b r : Bool) → a ≡ true → r ≡ b → r ≡ (a && b)
and-next a b r e q = rw e q

pub or-stop : (a b : Bool) → a ≡ true → true ≡ (a || b)
or-stop a b e = sym (or_left a b e)

pub or-next : (a b r : Bool) → a ≡ false → r ≡ b → r ≡ (a || b)
or-next a b r e q = rw e q

pub right-true : (a b : Bool) → b ≡ true → a && b ≡ a
right-true true b e = e
right-true false b e = refl

pub right_falsum : (a b : Bool) → b ≡ false → a || b ≡ a
right_falsum true b e = refl
right_falsum false b e = e

pub or_none_lem : (a : Bool) → a || false ≡ a
or_none_lem a = right_falsum a false refl

-- one test of several fails, and one decides where the others pass
pub three_1 : (a b c : Bool) → a ≡ false → false ≡ (a && b && c)
three_1 a b c e = rw e

pub three_2 : (a b c : Bool) → b ≡ false → false ≡ (a && b && c)
three_2 a b c e = sym (left_false (a && b) c (right-false a b e))

pub three_3 : (a b c : Bool) → c ≡ false → false ≡ (a && b && c)
three_3 a b c e = sym (right-false (a && b) c e)

pub three-first : (a b c r : Bool) → r ≡ a → b ≡ true → c ≡ true → r ≡ (a && b && c)
three-first a b c r e p q = e ∙ sym (right-true (a && b) c q ∙ right-true a b p)

pub three-last : (a b c r : Bool) → a ≡ true → b ≡ true → r ≡ c → r ≡ (a && b && c)
three-last a b c r p q e = rw (p, q) e

module _ (a b c d e : Bool) where
  pub five_1 : a ≡ false → false ≡ (a && b && c && d && e)
  five_1 h = rw h

  pub five_2 : b ≡ false → false ≡ (a && b && c && d && e)
  five_2 h = rw (right-false a b h)

  pub five_3 : c ≡ false → false ≡ (a && b && c && d && e)
  five_3 h = rw (right-false (a && b) c h)

  pub five_4 : d ≡ false → false ≡ (a && b && c && d && e)
  five_4 h = rw (right-false (a && b && c) d h)

  pub five-last : (r : Bool) → a ≡ true → b ≡ true → c ≡ true → d ≡ true → r ≡ e → r ≡ (a && b && c && d && e)
  five-last r p q f g h = rw (p, q, f, g) h

-- a test that a call made
pub failed : (a x : Bool) → x ≡ a → not x ≡ true → a ≡ false
failed a x e h = sym e ∙ not-true x h

pub passed : (a x : Bool) → x ≡ a → not x ≡ false → a ≡ true
passed a x e h = sym e ∙ not-false x h

pub clash : {a : Bool} {X : Type 0} → a ≡ true → a ≡ false → X
clash p q = absurd (false≢true (sym q ∙ p))

-- a test is true or false
pub decide : {X : Type 0} (b : Bool) → (b ≡ true → X) → (b ≡ false → X) → X
decide true f g = f refl
decide false f g = g refl

-- two tests that imply each other are equal
pub same_test : (a b : Bool) → (a ≡ true → b ≡ true) → (b ≡ true → a ≡ true) → a ≡ b
same_test true true f g = refl
same_test true false f g = sym (f refl)
same_test false true f g = g refl
same_test false false f g = refl

pub within_low : (n t : ℕ) → within n t ≡ true → 0 < t
unfolding within
within_low n t e = ltb-true 0 t (both_left _ _ e)

pub within-high : (n t : ℕ) → within n t ≡ true → t ≤ n
unfolding within
within-high n t e = leb-true t n (both_right (ltb 0 t) _ e)

pub within-is : (n t : ℕ) → 0 < t → t ≤ n → within n t ≡ true
unfolding within
within-is n t p q = both_true _ _ (lt-ltb 0 t p) (le-leb t n q)

pub within-zero : (n t : ℕ) → t ≡ 0 → within n t ≡ false
unfolding within
within-zero n t e = left_false _ _ (le-ltb 0 t (omega arith))

pub within-past : (n t : ℕ) → n < t → within n t ≡ false
unfolding within
within-past n t h = right-false (ltb 0 t) _ (lt-leb t n h)

-- EVERY NUMBER BELOW

pub below-zero : (p : ℕ → Bool) → all_below p 0 ≡ true
unfolding all_below
below-zero p = refl

pub below_suc : (p : ℕ → Bool) (n : ℕ) → all_below p n ≡ true → p n ≡ true → all_below p (suc n) ≡ true
unfolding all_below
below_suc p n h q = both_true _ _ h q

pub below_at : (p : ℕ → Bool) (n : ℕ) → all_below p n ≡ true → (k : ℕ) → k < n → p k ≡ true
unfolding all_below
below_at p zero h k l = absurd (not-suc-le-zero l)
below_at p (suc n) h k l =
    ⊎_elim (λ e. ap p e ∙ both_right (all_below p n) _ h) (λ lt. below_at p n (both_left _ (p n) h) k lt) (eq-or-lt_of_le (le_of_suc-le-suc l))

pub below_all : (p : ℕ → Bool) (n : ℕ) → ((k : ℕ) → k < n → p k ≡ true) → all_below p n ≡ true
unfolding all_below
below_all p zero f = refl
below_all p (suc n) f = both_true _ _ (below_all p n (λ k l. f k (omega arith))) (f n (omega arith))

pub below_false : (p : ℕ → Bool) (n k : ℕ) → k < n → p k ≡ false → all_below p n ≡ false
unfolding all_below
below_false p zero k l h = absurd (not-suc-le-zero l)
below_false p (suc n) k l h =
    ⊎_elim (λ e. right-false (all_below p n) _ (ap p (sym e) ∙ h)) (λ lt. left_false _ (p n) (below_false p n k lt h)) (eq-or-lt_of_le (le_of_suc-le-suc l))

-- each number from 1 to n
pub upto-at : (p : ℕ → Bool) (n : ℕ) → all_below (λ i. p (suc i)) n ≡ true → (t : ℕ) → within n t ≡ true → p t ≡ true
upto-at p n h zero w = let z = within_low n 0 w in absurd (omega arith)
upto-at p n h (suc t) w = below_at (λ i. p (suc i)) n h t (within-high n (suc t) w)

pub upto_all : (p : ℕ → Bool) (n : ℕ) → ((t : ℕ) → within n t ≡ true → p t ≡ true) → all_below (λ i. p (suc i)) n ≡ true
upto_all p n f = below_all (λ i. p (suc i)) n (λ k l. f (suc k) (within-is n (suc k) (omega arith) l))

-- the loop `while i < n { if !test(.., i) { return false; } i += 1; } true`
pub below-stop : (p : ℕ → Bool) (n i : ℕ) (b : Bool) → b ≡ p i → b ≡ false → i < n → false ≡ all_below p n
below-stop p n i b e h l = sym (below_false p n i l (sym e ∙ h))

pub below-turn : (p : ℕ → Bool) (i : ℕ) (b : Bool) → b ≡ p i → b ≡ true → all_below p i ≡ true → all_below p (i + 1) ≡ true
below-turn p i b e h q = rw add-one (below_suc p i q (sym e ∙ h))

pub below-done : (p : ℕ → Bool) (n i : ℕ) → i ≤ n → n ≤ i → all_below p i ≡ true → true ≡ all_below p n
below-done p n i a b h = let e : i ≡ n = le_antisymm a b in sym (rw e at h)

-- THE LOWEST NUMBER BELOW

pub first-zero : (p : ℕ → Bool) → first_below p 0 ≡ none
unfolding first_below
first-zero p = refl

pub first-pass : (p : ℕ → Bool) (n : ℕ) → first_below p n ≡ none → p n ≡ false → first_below p (suc n) ≡ none
unfolding first_below
first-pass p n h q = rw (h, q)

pub first_hit : (p : ℕ → Bool) (n : ℕ) → first_below p n ≡ none → p n ≡ true → first_below p (suc n) ≡ some n
unfolding first_below
first_hit p n h q = rw (h, q)

pub first-stays : (p : ℕ → Bool) (i n k : ℕ) → first_below p i ≡ some k → i ≤ n → first_below p n ≡ some k
unfolding first_below
first-stays p i zero k h l = let e : i ≡ 0 = omega arith in rw e at h
first-stays p i (suc n) k h l =
    ⊎_elim (λ e. rw e at h) (λ lt. rw (first-stays p i n k h (le_of_suc-le-suc lt))) (eq-or-lt_of_le l)

pub first-none : (p : ℕ → Bool) (n : ℕ) → first_below p n ≡ none → (k : ℕ) → k < n → p k ≡ false
unfolding first_below
first-none p zero h k l = absurd (not-suc-le-zero l)
first-none p (suc n) h k l = go (first-none p n) (first_below p n) (p n) refl refl h
  where
    go : (first_below p n ≡ none → (k : ℕ) → k < n → p k ≡ false) → (o : Option ℕ) (b : Bool) → first_below p n ≡ o → p n ≡ b → ◌≡◌ {A = Option ℕ} (elim o [ some i ↦ some i | none ↦ (if b then some n else none) ]) none → p k ≡ false
    go ih (some i) b e q z = let y : ◌≡◌ {A = ℕ} 0 1 = cc in absurd (omega arith)
    go ih none true e q z = let y : ◌≡◌ {A = ℕ} 0 1 = cc in absurd (omega arith)
    go ih none false e q z = ⊎_elim (λ d. ap p d ∙ q) (λ lt. ih e k lt) (eq-or-lt_of_le (le_of_suc-le-suc l))

pub first_absent : (p : ℕ → Bool) (n : ℕ) → ((k : ℕ) → k < n → p k ≡ false) → first_below p n ≡ none
first_absent p zero f = first-zero p
first_absent p (suc n) f = first-pass p n (first_absent p n (λ k h. f k (omega arith))) (f n (omega arith))

pub first-same : (p q : ℕ → Bool) (n : ℕ) → ((k : ℕ) → k < n → p k ≡ q k) → first_below p n ≡ first_below q n
unfolding first_below
first-same p q zero f = refl
first-same p q (suc n) f =
    ap (λ (o : Option ℕ). or-next o (p n)) (first-same p q n (λ k l. f k (omega arith))) ∙ ap (or-next (first_below q n)) (f n (omega arith))
  where
    or-next : Option ℕ → Bool → Option ℕ
    or-next o b = elim o [ some i ↦ some i | none ↦ (if b then some n else none) ]

pub record Found (p : ℕ → Bool) (n i : ℕ) : Type 0 where
  pub below : i < n
  pub passes : p i ≡ true

pub first_some : (p : ℕ → Bool) (n i : ℕ) → first_below p n ≡ some i → Found p n i
unfolding first_below
first_some p zero i h = let y : ◌≡◌ {A = ℕ} 0 1 = cc in absurd (omega arith)
first_some p (suc n) i h = go (first_some p n) (first_below p n) (p n) refl refl h
  where
    go : ((j : ℕ) → first_below p n ≡ some j → Found p n j) → (o : Option ℕ) (b : Bool) → first_below p n ≡ o → p n ≡ b → ◌≡◌ {A = Option ℕ} (elim o [ some j ↦ some j | none ↦ (if b then some n else none) ]) (some i) → Found p (suc n) i
    go ih (some j) b e q z = let f = ih j e in let y : j ≡ i = cc in record { below = (let g = f.below in omega arith); passes = ap p (sym y) ∙ f.passes }
    go ih none true e q z = let y : n ≡ i = cc in record { below = omega arith; passes = ap p (sym y) ∙ q }
    go ih none false e q z = let y : ◌≡◌ {A = ℕ} 0 1 = cc in absurd (omega arith)

-- THE HIGHEST NUMBER BELOW

pub last_hit : (p : ℕ → Bool) (n : ℕ) → p n ≡ true → last_below p (suc n) ≡ n
unfolding last_below
last_hit p n e = rw e

pub last-pass : (p : ℕ → Bool) (n : ℕ) → p n ≡ false → last_below p (suc n) ≡ last_below p n
unfolding last_below
last-pass p n e = rw e

last_none : (p : ℕ → Bool) → last_below p 0 ≡ 0
unfolding last_below
last_none p = refl

pub last_one : (p : ℕ → Bool) → last_below p 1 ≡ 0
last_one p = decide (p 0) (last_hit p 0) (λ e. last-pass p 0 e ∙ last_none p)

pub last-low : (p : ℕ → Bool) (n : ℕ) → 0 < n → last_below p n < n
last-low p zero h = absurd (omega arith)
last-low p (suc zero) h = rw (last_one p) (omega arith)
last-low p (suc (suc n)) h =
    let i = last-low p (suc n) (omega arith) in
    decide (p (suc n)) (λ e. rw (last_hit p (suc n) e) (omega arith)) (λ e. rw (last-pass p (suc n) e) (omega arith))

pub last-passes : (p : ℕ → Bool) (n : ℕ) → (last_below p n ≡ 0 → ⊥) → p (last_below p n) ≡ true
last-passes p zero h = absurd (h (last_none p))
last-passes p (suc n) h = decide (p n) (λ e. rw (last_hit p n e) e) (λ e. rw (last-pass p n e) (last-passes p n (λ z. h (last-pass p n e ∙ z))))

-- none above the highest passes
pub last-above : (p : ℕ → Bool) (n k : ℕ) → last_below p n < k → k < n → p k ≡ false
last-above p zero k h l = absurd (omega arith)
last-above p (suc n) k h l = decide (p n)
    (λ e. let i = last_hit p n e in absurd (omega arith))
    (λ e. let i = last-pass p n e in ⊎_elim (λ q. ap p q ∙ e) (λ q. last-above p n k (omega arith) q) (eq-or-lt_of_le (le_of_suc-le-suc l)))

-- what holds wherever p fails is left to be tested only up to the highest
pub last-all : (p q : ℕ → Bool) (n : ℕ) → q 0 ≡ true → ((k : ℕ) → k < n → p k ≡ false → q k ≡ true) → all_below q (suc (last_below p n)) ≡ all_below q n
unfolding all_below
last-all p q zero z f = rw (last_none p) z
last-all p q (suc n) z f = decide (p n) (λ e. rw (last_hit p n e)) (λ e. ap (λ (k : ℕ). all_below q (suc k)) (last-pass p n e) ∙ last-all p q n z (λ k l. f k (omega arith)) ∙ sym (right-true _ _ (f n (omega arith) e)))

-- TABLES

module _ {A : Type 0} where
  pub table_same : (f g : ℕ → A) (n : ℕ) → ((i : ℕ) → i < n → f i ≡ g i) → table f n ≡ table g n
  unfolding table
  table_same f g zero h = refl
  table_same f g (suc n) h = let p = table_same f g n (λ i k. h i (omega arith)) in let q = h n (omega arith) in cc

  pub table-length : (f : ℕ → A) (n : ℕ) → length (table f n) ≡ n
  unfolding table
  table-length f zero = refl
  table-length f (suc n) = length-append (table f n) (f n ∷ []) ∙ (let p = table-length f n in omega arith)

  pub table_at_lem : (f : ℕ → A) (n i : ℕ) (d : A) → i < n → get_or (table f n) i d ≡ f i
  unfolding table
  table_at_lem f zero i d h = absurd (not-suc-le-zero h)
  table_at_lem f (suc n) i d h =
      ⊎_elim (λ e. rw e (get_or_at (table f n) (f n) [] d n (table-length f n)))
      (λ lt. get_or-append (table f n) (f n ∷ []) d i (let l = table-length f n in omega arith) ∙ table_at_lem f n i d lt) (eq-or-lt_of_le (le_of_suc-le-suc h))

  pub table-past : (f : ℕ → A) (n i : ℕ) (d : A) → n ≤ i → get_or (table f n) i d ≡ d
  table-past f n i d h = get_or-eq_default (table f n) d {n = i} (let l = table-length f n in omega arith)

  -- one more, and n more
  pub table-suc : (f : ℕ → A) (n : ℕ) → table f (suc n) ≡ table f n ++ (f n ∷ [])
  unfolding table
  table-suc f n = refl

  pub table_add : (f : ℕ → A) (m n : ℕ) → table f (m + n) ≡ table f m ++ table (λ i. f (m + i)) n
  unfolding table
  table_add f m zero = rw (native.Mathlib.Nat.add-zero m) (sym (mathlib.Core.List.append-nil (table f m)))
  table_add f m (suc n) = rw (native.Mathlib.Nat.add-suc m n, table_add f m n, append_assoc)

  pub all_append : (p : A → Bool) (l m : List A) → all p (l ++ m) ≡ (all p l && all p m)
  unfolding all
  all_append p [] m = refl
  all_append p (x ∷ l) m = go (p x) (all_append p l m)
    where
      go : (b : Bool) → all p (l ++ m) ≡ (all p l && all p m) → (b && all p (l ++ m)) ≡ ((b && all p l) && all p m)
      go true e = e
      go false e = refl

  -- a test of every record of a table is a test of every number
  pub all-table : (p : A → Bool) (f : ℕ → A) (n : ℕ) → all p (table f n) ≡ all_below (λ i. p (f i)) n
  unfolding table all_below all
  all-table p f zero = refl
  all-table p f (suc n) = all_append p (table f n) (f n ∷ []) ∙ (let e = all-table p f n in go (p (f n)) (ap (λ (b : Bool). b && (p (f n) && true)) e))
    where
      go : (b : Bool) → (all p (table f n) && (b && true)) ≡ (all_below (λ i. p (f i)) n && (b && true)) → (all p (table f n) && (b && true)) ≡ (all_below (λ i. p (f i)) n && b)
      go true e = e
      go false e = e

  -- such a loop over a table, by places
  pub table-stop : (p : A → Bool) (f : ℕ → A) (n i : ℕ) (b : Bool) → b ≡ p (f i) → b ≡ false → i < n → false ≡ all p (table f n)
  table-stop p f n i b e h l = below-stop (λ j. p (f j)) n i b e h l ∙ sym (all-table p f n)

  pub table_done : (p : A → Bool) (f : ℕ → A) (n i : ℕ) → i ≤ n → n ≤ i → all_below (λ j. p (f j)) i ≡ true → true ≡ all p (table f n)
  table_done p f n i a b h = below-done (λ j. p (f j)) n i a b h ∙ sym (all-table p f n)

-- a table that was cleared
-- what a chain `l.iter().all(..)` answers, in std's word
pub all-list : {A : Type 0} (p : A → Bool) (l : List A) → list_all p l ≡ all p l
unfolding all
all-list p [] = refl
all-list p (x ∷ l) = ap (λ b. p x && b) (all-list p l)

-- what `v == w` answers of two slices
pub pointwise-words : (v w : List ℕ) → pointwise eqb v w ≡ same_word v w
unfolding same_word
pointwise-words [] [] = refl
pointwise-words [] (y ∷ w) = refl
pointwise-words (x ∷ v) [] = refl
pointwise-words (x ∷ v) (y ∷ w) = ap (λ b. eqb x y && b) (pointwise-words v w)

-- a loop `for t in 1..=n` has come to i: the numbers from 1 on below i pass
pub record UpTo (q : ℕ → Bool) (i : ℕ) : Type 0 where
  pub pass : (t : ℕ) → 0 < t → t < i → q t ≡ true

pub upto_none : (q : ℕ → Bool) → UpTo q 1
upto_none q = record { pass = λ t z h. absurd (omega arith) }

pub upto_more : (q : ℕ → Bool) (i : ℕ) (b : Bool) → UpTo q i → b ≡ q i → b ≡ true → UpTo q (i + 1)
upto_more q i b u e h =
    let here : 0 < i → q i ≡ true = λ z. sym e ∙ h in
    record { pass = λ t z l. below_more (λ k. 0 < k → q k ≡ true) i (λ k m y. u.pass k y m) here t l z }

module _ {A : Type 0} (f : ℕ → A) (q : ℕ → Bool) (n i : ℕ) where
  pub upto-stop : (b : Bool) → b ≡ q i → b ≡ false → 0 < i → i ≤ n → false ≡ all_below (λ j. q (suc j)) (length (table f n))
  upto-stop b e h z l = rw (table-length f n) (sym (upto-not i (sym e ∙ h) z l)) where
    upto-not : (k : ℕ) → q k ≡ false → 0 < k → k ≤ n → all_below (λ j. q (suc j)) n ≡ false
    upto-not zero e z l = absurd (omega arith)
    upto-not (suc k) e z l = below_false (λ j. q (suc j)) n k (omega arith) e

  pub upto-done : UpTo q i → n < i → true ≡ all_below (λ j. q (suc j)) (length (table f n))
  upto-done u h = rw (table-length f n) (sym (below_all (λ j. q (suc j)) n (λ k l. u.pass (suc k) (omega arith) (omega arith))))

pub all-zero : (w i : ℕ) → ◌≡◌ {A = ℕ} (get_or (replicate w 0) i 0) 0
all-zero zero i = refl
all-zero (suc w) zero = refl
all-zero (suc w) (suc i) = all-zero w i

-- SOME ELEMENT

module _ {A : Type 0} (p : A → Bool) where
  pub any_append : (l m : List A) → any p (l ++ m) ≡ (any p l || any p m)
  unfolding any
  any_append [] m = refl
  any_append (x ∷ l) m = go (p x) (any_append l m)
    where
      go : (b : Bool) → any p (l ++ m) ≡ (any p l || any p m) → (b || any p (l ++ m)) ≡ ((b || any p l) || any p m)
      go true e = refl
      go false e = e

  -- the loop `while i < n { if test(.., i) { return true; } i += 1; } false` over a table
  pub any-zero : (f : ℕ → A) → any p (table f 0) ≡ false
  unfolding any table
  any-zero f = refl

  any_step : (f : ℕ → A) (i : ℕ) → any p (table f (suc i)) ≡ (any p (table f i) || p (f i))
  unfolding any table
  any_step f i = any_append (table f i) (f i ∷ []) ∙ ap (λ (b : Bool). any p (table f i) || b) (go (p (f i)))
    where
      go : (b : Bool) → (b || false) ≡ b
      go true = refl
      go false = refl

  pub any-turn : (f : ℕ → A) (i : ℕ) (b : Bool) → b ≡ p (f i) → b ≡ false → any p (table f i) ≡ false → any p (table f (i + 1)) ≡ false
  any-turn f i b e h q = rw (add-one, any_step, q) (sym e ∙ h)

  pub any-stays : (f : ℕ → A) (n i : ℕ) → i < n → p (f i) ≡ true → any p (table f n) ≡ true
  any-stays f zero i l h = absurd (not-suc-le-zero l)
  any-stays f (suc n) i l h =
      any_step f n
      ∙ ⊎_elim (λ e. or_right (any p (table f n)) (p (f n)) (ap (λ (j : ℕ). p (f j)) (sym e) ∙ h)) (λ lt. or_left _ (p (f n)) (any-stays f n i lt h)) (eq-or-lt_of_le (le_of_suc-le-suc l))

  pub any-stop : (f : ℕ → A) (n i : ℕ) (b : Bool) → b ≡ p (f i) → b ≡ true → i < n → true ≡ any p (table f n)
  any-stop f n i b e h l = sym (any-stays f n i l (sym e ∙ h))

  pub any-done : (f : ℕ → A) (n i : ℕ) → i ≤ n → n ≤ i → any p (table f i) ≡ false → false ≡ any p (table f n)
  any-done f n i a b h = let e : i ≡ n = le_antisymm a b in sym (rw e at h)

-- WORDS

pub word_is : (v w : List ℕ) → same_word v w ≡ true → v ≡ w
unfolding same_word
word_is [] [] e = refl
word_is [] (y ∷ w) e = absurd (false≢true e)
word_is (x ∷ v) [] e = absurd (false≢true e)
word_is (x ∷ v) (y ∷ w) e =
    let p = eqb-true x y (both_left (eqb x y) _ e) in
    let q = word_is v w (both_right (eqb x y) _ e) in cc

pub word-refl : (w : List ℕ) → same_word w w ≡ true
unfolding same_word
word-refl [] = refl
word-refl (x ∷ w) = rw (eq-eqb x x refl) (word-refl w)

pub word_same : (v w : List ℕ) → v ≡ w → same_word v w ≡ true
word_same v w e = rw e (word-refl w)

pub word-differs : (v w : List ℕ) → (v ≡ w → ⊥) → same_word v w ≡ false
word-differs v w d = decide (same_word v w) (λ e. absurd (d (word_is v w e))) (λ e. e)

-- word by word, where the first two have one length
pub word-append : (v w v' w' : List ℕ) → length v ≡ length w → same_word (v ++ v') (w ++ w') ≡ (same_word v w && same_word v' w')
unfolding same_word
word-append [] [] v' w' e = refl
word-append [] (y ∷ w) v' w' e = absurd (omega arith)
word-append (x ∷ v) [] v' w' e = absurd (omega arith)
word-append (x ∷ v) (y ∷ w) v' w' e = go (eqb x y) (word-append v w v' w' (omega arith))
  where
    go : (b : Bool) → same_word (v ++ v') (w ++ w') ≡ (same_word v w && same_word v' w') → (b && same_word (v ++ v') (w ++ w')) ≡ ((b && same_word v w) && same_word v' w')
    go true q = q
    go false q = refl

module _ {A B : Type 0} (f : A → List B) where
  pub concat_map-append : (l m : List A) → concat_map f (l ++ m) ≡ concat_map f l ++ concat_map f m
  unfolding concat_map
  concat_map-append [] m = refl
  concat_map-append (x ∷ l) m = rw (concat_map-append l m, append_assoc)

-- EACH ELEMENT

module _ {A : Type 0} where
  pub every_map : {P Q : A → Type 0} {l : List A} → ((a : A) → P a → Q a) → Every P l → Every Q l
  every_map f none_left = none_left
  every_map f (and p k) = and (f _ p) (every_map f k)

  pub every_both : {P Q : A → Type 0} {l : List A} → Every P l → Every Q l → Every (λ a. P a × Q a) l
  every_both none_left none_left = none_left
  every_both (and p h) (and q k) = and (p, q) (every_both h k)

  pub every_append : {P : A → Type 0} {l m : List A} → Every P l → Every P m → Every P (l ++ m)
  every_append none_left k = k
  every_append (and p h) k = and p (every_append h k)

  pub every_left : {P : A → Type 0} (l m : List A) → Every P (l ++ m) → Every P l
  every_left [] m e = none_left
  every_left (x ∷ l) m (and p e) = and p (every_left l m e)

  pub every_right : {P : A → Type 0} (l m : List A) → Every P (l ++ m) → Every P m
  every_right [] m e = e
  every_right (x ∷ l) m (and p e) = every_right l m e

  pub every_at : {P : A → Type 0} (l : List A) (i : ℕ) (d : A) → Every P l → i < length l → P (get_or l i d)
  every_at (x ∷ l) zero d (and p k) h = p
  every_at (x ∷ l) (suc i) d (and p k) h = every_at l i d k (le_of_suc-le-suc h)
  every_at [] i d none_left h = absurd (not-suc-le-zero h)

  pub every_mem : {P : A → Type 0} {l : List A} {a : A} → Every P l → Memᴰ a l → P a
  every_mem {P} (and p k) (Memᴰ.head e) = rw e p
  every_mem (and p k) (Memᴰ.tail m) = every_mem k m
  every_mem {P = P} {a = a} none_left x3 = elim x3 [ ]

  pub all_every : (p : A → Bool) (l : List A) → all p l ≡ true → Every (λ a. p a ≡ true) l
  unfolding all
  all_every p [] e = none_left
  all_every p (x ∷ l) e = and (both_left (p x) _ e) (all_every p l (both_right (p x) _ e))

  pub every_all : {p : A → Bool} {l : List A} → Every (λ a. p a ≡ true) l → all p l ≡ true
  unfolding all
  every_all none_left = refl
  every_all (and e k) = both_true _ _ e (every_all k)

  pub all_take : (p : A → Bool) (n : ℕ) (l : List A) → all p l ≡ true → all p (take n l) ≡ true
  unfolding all
  all_take p zero l e = refl
  all_take p (suc n) [] e = refl
  all_take p (suc n) (x ∷ l) e = both_true _ _ (both_left (p x) _ e) (all_take p n l (both_right (p x) _ e))

  pub all_drop : (p : A → Bool) (n : ℕ) (l : List A) → all p l ≡ true → all p (drop n l) ≡ true
  unfolding all
  all_drop p zero l e = e
  all_drop p (suc n) [] e = e
  all_drop p (suc n) (x ∷ l) e = all_drop p n l (both_right (p x) _ e)

  pub concat_map-same : {B : Type 0} (f g : A → List B) {l : List A} → Every (λ a. f a ≡ g a) l → concat_map f l ≡ concat_map g l
  unfolding concat_map
  concat_map-same f g none_left = refl
  concat_map-same f g (and {a} {l} e k) = let h = concat_map-same f g k in cc

  pub all-concat_map : {B : Type 0} (p : B → Bool) (f : A → List B) (l : List A) → ((a : A) → all p (f a) ≡ true) → all p (concat_map f l) ≡ true
  unfolding all concat_map
  all-concat_map p f [] h = refl
  all-concat_map p f (x ∷ l) h = all_append p (f x) (concat_map f l) ∙ both_true _ _ (h x) (all-concat_map p f l h)

pub firsts-length : (l : List (ℕ × ℕ)) → length (firsts l) ≡ length l
unfolding firsts
firsts-length [] = refl
firsts-length (p ∷ l) = ap suc (firsts-length l)

pub every_firsts : {P : ℕ × ℕ → Type 0} {Q : ℕ → Type 0} {l : List (ℕ × ℕ)} → ((p : ℕ × ℕ) → P p → Q p.0) → Every P l → Every Q (firsts l)
unfolding firsts
every_firsts f none_left = none_left
every_firsts f (and {a} p k) = and (f a p) (every_firsts f k)

pub firsts_every : {P : ℕ → Type 0} (l : List (ℕ × ℕ)) → Every P (firsts l) → Every (λ p. P p.0) l
unfolding firsts
firsts_every [] k = none_left
firsts_every (p ∷ l) (and h k) = and h (firsts_every l k)

pub seconds_every : {P : ℕ → Type 0} (l : List (ℕ × ℕ)) → Every P (seconds l) → Every (λ p. P p.1) l
unfolding seconds
seconds_every [] k = none_left
seconds_every (p ∷ l) (and h k) = and h (seconds_every l k)

-- from a place on: the element there, and those after it
pub drop_head : (l : List ℕ) (i : ℕ) → i < length l → drop i l ≡ get_or l i 0 ∷ drop (i + 1) l
drop_head l i h = rw (add-one i) (drop-cons l i 0 h)
