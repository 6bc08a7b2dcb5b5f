-- The forest: what stands above a term, up to the root, and the first of it that passes a test.
use mathlib.Core.Path.{◌≡◌, refl, sym, ap, ◌∙◌}
use mathlib.Core.Bool.{Bool, true, false}
use mathlib.Core.List.Memᴰ
use mathlib.Core.List.{List, [], ◌∷◌, Memᴰ}
use mathlib.Core.Logic.{◌⊎◌, inl, inr, ⊎_elim}
use mathlib.Core.Option.{Option, none, some}
use Prim.Native.Nat.{ℕ, zero, suc, ◌<◌}
use native.Mathlib.Omega.{arith}
use lib.ListN.{length}
use lib.Dec.{eqb}
use borrow.Author.Tests.{eqb-true, eqb-false, eq-eqb}
use Rattle.records.specs.Lists.{any, first_of, is_in}
use Rattle.records.specs.Store.{Term, climb, forest_up, above_by}
use Rattle.records.proofs.Lists.{either, or_left, or_right, clash}
use Rattle.records.proofs.Climbs.{climb-stays}

-- MEMBERS

pub is_in_lem : (x : ℕ) (l : List ℕ) → is_in x l ≡ true → Memᴰ x l
unfolding is_in any
is_in_lem x [] e = clash e refl
is_in_lem x (y ∷ l) e = ⊎_elim (λ h. Memᴰ.head (eqb-true x y h)) (λ h. Memᴰ.tail (is_in_lem x l h)) (either (eqb x y) _ e)

pub in_is : {x : ℕ} {l : List ℕ} → Memᴰ x l → is_in x l ≡ true
unfolding is_in any
in_is (Memᴰ.head e) = or_left _ _ (eq-eqb _ _ e)
in_is {x} (Memᴰ.tail {x = y} m) = or_right (eqb x y) _ (in_is m)

-- WHAT STANDS ABOVE

-- the list is t and what stands above it, up to the root
pub data Rise (ts : List Term) : ℕ → List ℕ → Type 0 where
  ends : {t : ℕ} → forest_up ts t ≡ t → Rise ts t (t ∷ [])
  goes : {t : ℕ} {l : List ℕ} → (forest_up ts t ≡ t → ⊥) → Rise ts (forest_up ts t) l → Rise ts t (t ∷ l)

-- where n steps up end at a root
module _ (ts : List Term) where
  abbrev Ended : ℕ → ℕ → Type 0
  Ended n t = forest_up ts (climb (forest_up ts) n t) ≡ climb (forest_up ts) n t

  pub rise-by : (n t : ℕ) → Ended n t → Rise ts t (above_by (suc n) ts t)
  unfolding climb above_by
  rise-by zero t e = rw (eq-eqb _ _ e) (ends e)
  rise-by (suc n) t e = go (rise-by n (forest_up ts t) e) (eqb (forest_up ts t) t) refl
    where
      go : Rise ts (forest_up ts t) (above_by (suc n) ts (forest_up ts t)) → (b : Bool) → eqb (forest_up ts t) t ≡ b
          → Rise ts t (t ∷ elim b [ true ↦ [] | false ↦ above_by (suc n) ts (forest_up ts t) ])
      go r true q = ends (eqb-true _ _ q)
      go r false q = goes (eqb-false _ _ q) r

  pub top-by : (n t : ℕ) → Ended n t → Memᴰ (climb (forest_up ts) n t) (above_by (suc n) ts t)
  unfolding climb above_by
  top-by zero t e = Memᴰ.head refl
  top-by (suc n) t e = go (top-by n (forest_up ts t) e) (eqb (forest_up ts t) t) refl
    where
      go : Memᴰ (climb (forest_up ts) n (forest_up ts t)) (above_by (suc n) ts (forest_up ts t)) → (b : Bool) → eqb (forest_up ts t) t ≡ b
          → Memᴰ (climb (forest_up ts) n (forest_up ts t)) (t ∷ elim b [ true ↦ [] | false ↦ above_by (suc n) ts (forest_up ts t) ])
      go m true q = Memᴰ.head (climb-stays (forest_up ts) (suc n) t (eqb-true _ _ q))
      go m false q = Memᴰ.tail m

  pub rise_one : {t : ℕ} {l m : List ℕ} → Rise ts t l → Rise ts t m → l ≡ m
  rise_one (ends e) (ends f) = refl
  rise_one (ends e) (goes d r) = absurd (d e)
  rise_one (goes d r) (ends e) = absurd (d e)
  rise_one {t} (goes d r) (goes f q) = ap (λ (l : List ℕ). t ∷ l) (rise_one r q)

  -- the list from a member x on: shorter, unless x is the first
  pub record Onward (t : ℕ) (l : List ℕ) (x : ℕ) : Type 0 where
    pub from : List ℕ
    pub rise : Rise ts x from
    pub shorter : (x ≡ t) ⊎ (length from < length l)

  pub rise_from : {t x : ℕ} {l : List ℕ} → Rise ts t l → Memᴰ x l → Onward t l x
  rise_from {t} {x} (ends e) m = go (Memᴰ.cases_cons m)
    where
      go : (x ≡ t) ⊎ Memᴰ x [] → Onward t (t ∷ []) x
      go (inl e') = record { from = x ∷ []; rise = ends {t = x} (rw e' e); shorter = inl e' }
      go (inr n) = absurd (Memᴰ.not-nil n)
  rise_from {t} {x} (goes {l = l} d r) m = go (rise_from r) (Memᴰ.cases_cons m)
    where
      go : (Memᴰ x l → Onward (forest_up ts t) l x) → (x ≡ t) ⊎ Memᴰ x l → Onward t (t ∷ l) x
      go ih (inl e) = record { from = t ∷ l; rise = rw e (goes d r); shorter = inl e }
      go ih (inr m) =
          let k = ih m in
          let same : x ≡ forest_up ts t → length k.from ≡ length l = λ e. ap length (rise_one {m = l} k.rise (rw e r)) in
          record { from = k.from; rise = k.rise; shorter = inr (⊎_elim (λ e. omega (arith, same e)) (λ h. omega arith) k.shorter) }

  -- THE FIRST THAT PASSES

  pub record First (p : ℕ → Bool) (l : List ℕ) : Type 0 where
    pub at : ℕ
    pub is : first_of p l ≡ some at
    pub mem : Memᴰ at l
    pub passes : p at ≡ true

  pub first_of_lem : (p : ℕ → Bool) {x : ℕ} {l : List ℕ} → Memᴰ x l → p x ≡ true → First p l
  unfolding first_of
  first_of_lem p (Memᴰ.head {x = y} {xs = l} e) q = record { at = y; is = rw (ap p (sym e) ∙ q, first_of); mem = Memᴰ.head refl; passes = ap p (sym e) ∙ q }
  first_of_lem p (Memᴰ.tail {x = y} {xs = l} m) q = go (first_of_lem p m q) (p y) refl
    where
      go : First p l → (b : Bool) → p y ≡ b → First p (y ∷ l)
      go f true e = record { at = y; is = rw (e, first_of); mem = Memᴰ.head refl; passes = e }
      go f false e = record { at = f.at; is = rw (e, first_of) f.is; mem = Memᴰ.tail f.mem; passes = f.passes }

  -- each that passes stands above the first
  pub record Above (x y : ℕ) : Type 0 where
    pub list : List ℕ
    pub rise : Rise ts x list
    pub mem : Memᴰ y list

  pub first_below_lem : (p : ℕ → Bool) {t : ℕ} {l : List ℕ} {x y : ℕ} → Rise ts t l → first_of p l ≡ some x → Memᴰ y l → p y ≡ true → Above x y
  unfolding first_of
  first_below_lem p {t} {l} {x} {y} (ends e) q m h = go (p t) q
    where
      go : (b : Bool) → ◌≡◌ {A = Option ℕ} (elim b [ true ↦ some t | false ↦ none ]) (some x) → Above x y
      go true i = let k : t ≡ x = cc in record { list = t ∷ []; rise = rw (sym k) (ends e); mem = m }
      go false i = let z : ◌≡◌ {A = ℕ} 0 1 = cc in absurd (omega arith)
  first_below_lem p {t} {l} {x} {y} (goes {l = k} d r) q m h = go (first_below_lem p r) (p t) refl q (Memᴰ.cases_cons m)
    where
      go : (first_of p k ≡ some x → Memᴰ y k → p y ≡ true → Above x y) → (b : Bool) → p t ≡ b
          → ◌≡◌ {A = Option ℕ} (elim b [ true ↦ some t | false ↦ first_of p k ]) (some x) → (y ≡ t) ⊎ Memᴰ y k → Above x y
      go ih true e i n = let j : x ≡ t = cc in record { list = t ∷ k; rise = rw j (goes d r); mem = m }
      go ih false e i (inl n) = clash h (ap p n ∙ e)
      go ih false e i (inr n) = ih i n h

  -- two that stand above each other are one
  pub above_each : {x y : ℕ} → Above x y → Above y x → x ≡ y
  above_each {x} {y} a b = go (rise_from a.rise a.mem) (rise_from b.rise b.mem)
    where
      go : Onward x a.list y → Onward y b.list x → x ≡ y
      go f g =
          let p = ap length (rise_one f.rise b.rise) in
          let q = ap length (rise_one g.rise a.rise) in
          ⊎_elim sym (λ h. ⊎_elim (λ e. e) (λ k. absurd (omega arith)) g.shorter) f.shorter
