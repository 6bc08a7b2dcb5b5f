-- The counts of joins at the marks, in order.
use mathlib.Core.Path.{◌≡◌, refl, sym, ap, subst, ◌∙◌}
use mathlib.Core.Bool.{true, false}
use mathlib.Core.List.{List, [], ◌∷◌, ◌++◌, Memᴰ}
use Prim.Native.Nat.{ℕ, zero, suc, ◌+◌, ◌-◌, ◌<◌, ◌≤◌}
use native.Mathlib.Numerals.{add-one}
use native.Mathlib.Omega.{arith}
use lib.ListN.{length, get_or, take, drop}
use lib.Seq.{drop-cons, drop-length, take-append-le, take-length}
use lib.Dec.{eqb, leb}
use borrow.Author.Tests.{eq-eqb, ne_eqb, le-leb, lt-leb}
use Rattle.records.specs.Lists.{table}
use Rattle.records.proofs.Lists.{and-stop, and-next, table-length, table_at_lem, table-suc, table_add, every_mem}
use Rattle.classes.specs.Marks.{rises, counts_rule}
use Rattle.classes.proofs.Marking.{counts-low, counts-take}

-- a table that is not empty has a first
first_of_lem : (f : ℕ → ℕ) (m : ℕ) → table f (suc m) ≡ f 0 ∷ table (λ i. f (1 + i)) m
unfolding table
first_of_lem f m = ap (table f) (let e : suc m ≡ 1 + m = omega arith in e) ∙ table_add f 1 m

module _ (f : ℕ → ℕ) (b : ℕ) where
  pub counts-none : (m : ℕ) → m ≡ 0 → eqb b 0 ≡ counts_rule (table f m) b
  unfolding counts_rule table
  counts-none m e = sym (rw e)

  pub counts-first : (m x : ℕ) → (m ≡ 0 → ⊥) → x ≡ f 0 → (x ≡ 0 → ⊥) → false ≡ counts_rule (table f m) b
  unfolding counts_rule
  counts-first zero x z e d = absurd (z refl)
  counts-first (suc m) x z e d = and-stop (eqb (f 0) 0) _ (ne_eqb _ _ (λ q. d (e ∙ q))) ∙ sym (ap (λ (l : List ℕ). counts_rule l b) (first_of_lem f m))

  rises-is : (m : ℕ) → (m ≡ 0 → ⊥) → f 0 ≡ 0 → rises 0 (table f m) b ≡ counts_rule (table f m) b
  unfolding counts_rule rises
  rises-is zero z e = absurd (z refl)
  rises-is (suc m) z e =
      let rest = rises (f 0) (table (λ i. f (1 + i)) m) b in
      ap (λ (l : List ℕ). rises 0 l b) (first_of_lem f m) ∙ sym (and-next (leb 0 (f 0)) rest rest (le-leb 0 (f 0) (omega arith)) refl) ∙ and-next (eqb (f 0) 0) rest rest (eq-eqb _ _ e) refl
      ∙ sym (ap (λ (l : List ℕ). counts_rule l b) (first_of_lem f m))

  -- with i counts seen, what is left says what the whole says
  pub record Rising (m last i : ℕ) : Type 0 where
    pub low : i ≤ m
    pub left : rises last (drop i (table f m)) b ≡ counts_rule (table f m) b

  pub rising_begin : (m x : ℕ) → (m ≡ 0 → ⊥) → x ≡ f 0 → x ≡ 0 → Rising m 0 0
  rising_begin m x z e d = record { low = omega arith; left = rises-is m z (sym e ∙ d) }

  module _ {m last i : ℕ} (r : Rising m last i) where
    module _ (h : i < m) (n : ℕ) (e : n ≡ f i) where
      one_left : drop i (table f m) ≡ n ∷ drop (suc i) (table f m)
      one_left = drop-cons (table f m) i 0 (let q = table-length f m in omega arith) ∙ ap (λ (x : ℕ). x ∷ drop (suc i) (table f m)) (table_at_lem f m i 0 h ∙ sym e)

      pub rising_stop : n < last → false ≡ counts_rule (table f m) b
      unfolding rises
      rising_stop k = and-stop (leb last n) _ (lt-leb last n k) ∙ sym (ap (λ (l : List ℕ). rises last l b) one_left) ∙ r.left

      pub rising_turn : last ≤ n → Rising m n (i + 1)
      unfolding rises
      rising_turn k = record { low = omega arith; left = rw (add-one i) (and-next (leb last n) _ (rises n (drop (suc i) (table f m)) b) (le-leb last n k) refl ∙ sym (ap (λ (l : List ℕ). rises last l b) one_left) ∙ r.left) }

    pub rising_done : m ≤ i → (x : ℕ) → x ≡ last → leb x b ≡ counts_rule (table f m) b
    unfolding rises
    rising_done k x y =
        let e : i ≡ length (table f m) = (let q = table-length f m in let j = r.low in omega arith) in
        ap (λ (z : ℕ). leb z b) y ∙ sym (ap (λ (l : List ℕ). rises last l b) (ap (λ (z : ℕ). drop z (table f m)) e ∙ drop-length (table f m))) ∙ r.left

-- the first of a table
pub take-table : {A : Type 0} (f : ℕ → A) (n j : ℕ) → j ≤ n → take j (table f n) ≡ table f j
take-table f n j h =
    let q = table-length f j in
    ap (λ (k : ℕ). take j (table f k)) (let e : n ≡ j + (n - j) = omega arith in e) ∙ ap (take j) (table_add f j (n - j)) ∙ take-append-le j (table f j) _ (omega arith)
    ∙ ap (λ (k : ℕ). take k (table f j)) (sym q) ∙ take-length (table f j)

-- the last count: those before it rise to it, and it is at most the joins recorded
pub counts_step : (f : ℕ → ℕ) (m i b : ℕ) → m ≡ suc i → counts_rule (table f m) b ≡ true → (counts_rule (table f i) (f i) ≡ true) × (f i ≤ b)
counts_step f m i b e h =
    let k = table-length f (suc i) in
    let w = ap (λ (j : ℕ). counts_rule (table f j) b) (sym e) ∙ h in
    let t = take-table f (suc i) i (omega arith) in
    let g : get_or (table f (suc i)) i 0 ≡ f i = table_at_lem f (suc i) i 0 (omega arith) in (
      sym (ap (λ (l : List ℕ). counts_rule l (f i)) t) ∙ sym (ap (counts_rule (take i (table f (suc i)))) g) ∙ counts-take b i (table f (suc i)) (omega arith) w,
      every_mem (counts-low b (table f (suc i)) w) (subst (Memᴰ (f i)) (sym (table-suc f i)) (in_last (f i) (table f i))),
    )
  where
    in_last : (x : ℕ) (l : List ℕ) → Memᴰ x (l ++ (x ∷ []))
    in_last x [] = Memᴰ.head refl
    in_last x (y ∷ l) = Memᴰ.tail (in_last x l)
