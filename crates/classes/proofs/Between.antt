-- The edges of the forest path of two terms of one tree are those that stand above exactly one of the two.
use mathlib.Core.Path.{◌≡◌, refl, sym, ap, subst, ◌∙◌}
use mathlib.Core.Bool.{Bool, true, false}
use mathlib.Core.List.Memᴰ
use mathlib.Core.List.{List, [], ◌∷◌, ◌++◌, Memᴰ}
use mathlib.Core.Logic.{◌⊎◌, inl, inr, ⊎_elim}
use mathlib.Core.Option.{Option, some}
use Prim.Native.Nat.{ℕ}
use lib.ListN.{length}
use lib.Dec.{eqb}
use borrow.Author.Tests.{eqb-true, eqb-false, ne_eqb}
use Rattle.records.specs.Lists.{is_in, first_of, up_to, Every, none_left, and}
use Rattle.records.specs.Store.{Term, within, top_in, above_in, or_none, nearest_in, path_in}
use Rattle.records.proofs.Lists.{decide, clash, every_append, every_left, every_right, every_mem}
use Rattle.records.proofs.Rises.{is_in_lem, in_is, Rise, ends, goes, rise-by, rise_one, First, first_of_lem, Above, above_each, top-by}
use Rattle.classes.specs.Working.Carries.{Forest}

-- LISTS

pub every_of : {P : ℕ → Type 0} (l : List ℕ) → ((e : ℕ) → Memᴰ e l → P e) → Every P l
every_of [] f = none_left
every_of (x ∷ l) f = and (f x (Memᴰ.head refl)) (every_of l (λ e m. f e (Memᴰ.tail m)))

-- not before y: it is the first, y not being it, or after the first
up-cases : {e : ℕ} (y x : ℕ) (l : List ℕ) → Memᴰ e (up_to y (x ∷ l)) → (x ≡ y → ⊥) × ((e ≡ x) ⊎ Memᴰ e (up_to y l))
unfolding up_to
up-cases {e} y x l m = go (eqb x y) refl m
  where
    go : (b : Bool) → eqb x y ≡ b → Memᴰ e (elim b [ true ↦ [] | false ↦ x ∷ up_to y l ]) → (x ≡ y → ⊥) × ((e ≡ x) ⊎ Memᴰ e (up_to y l))
    go true q n = absurd (Memᴰ.not-nil n)
    go false q n = (eqb-false x y q, Memᴰ.cases_cons n)

up_none : {e : ℕ} (y : ℕ) → Memᴰ e (up_to y []) → ⊥
unfolding up_to
up_none y m = Memᴰ.not-nil m

up-past : (y x : ℕ) (l : List ℕ) → (x ≡ y → ⊥) → up_to y (x ∷ l) ≡ x ∷ up_to y l
unfolding up_to
up-past y x l d = rw (ne_eqb x y d, up_to)

up_sub : {e : ℕ} (y : ℕ) (l : List ℕ) → Memᴰ e (up_to y l) → Memᴰ e l
up_sub y [] m = absurd (up_none y m)
up_sub y (x ∷ l) m = ⊎_elim (λ q. Memᴰ.head q) (λ n. Memᴰ.tail (up_sub y l n)) (up-cases y x l m).1

up-not : {e : ℕ} (y : ℕ) (l : List ℕ) → Memᴰ e (up_to y l) → e ≡ y → ⊥
up-not y [] m q = up_none y m
up-not y (x ∷ l) m q = let c = up-cases y x l m in ⊎_elim (λ z. c.0 (sym z ∙ q)) (λ n. up-not y l n q) c.1

-- what comes before the first that passes does not pass
before-first : (p : ℕ → Bool) {e y : ℕ} (l : List ℕ) → first_of p l ≡ some y → Memᴰ e (up_to y l) → p e ≡ false
unfolding first_of
before-first p {e} {y} [] f m = absurd (up_none y m)
before-first p {e} {y} (x ∷ l) f m = go (p x) refl (before-first p l) f (up-cases y x l m)
  where
    go : (b : Bool) → p x ≡ b → (first_of p l ≡ some y → Memᴰ e (up_to y l) → p e ≡ false) → ◌≡◌ {A = Option ℕ} (elim b [ true ↦ some x | false ↦ first_of p l ]) (some y)
        → (x ≡ y → ⊥) × ((e ≡ x) ⊎ Memᴰ e (up_to y l)) → p e ≡ false
    go true q ih g c = let z : x ≡ y = cc in absurd (c.0 z)
    go false q ih g c = ⊎_elim (λ z. ap p z ∙ q) (λ n. ih g n) c.1

-- WAYS UP

module _ (ts : List Term) where
  -- what is on a way is before y on it or above y
  rise-split : {t y e : ℕ} {l : List ℕ} → Rise ts t l → Memᴰ y l → Memᴰ e l → Memᴰ e (up_to y l) ⊎ Above ts y e
  rise-split {t} {y} {e} {l} (ends q) m n =
      ⊎_elim (λ z. inr (record { list = t ∷ []; rise = subst (λ (x : ℕ). Rise ts x (t ∷ [])) (sym z) (ends q); mem = n })) (λ k. absurd (Memᴰ.not-nil k)) (Memᴰ.cases_cons m)
  rise-split {t} {y} {e} (goes {l = l} d r) m n = decide (eqb t y) (λ z. here (eqb-true t y z)) (λ z. past (rise-split r) (eqb-false t y z) (Memᴰ.cases_cons m) (Memᴰ.cases_cons n))
    where
      here : t ≡ y → Memᴰ e (up_to y (t ∷ l)) ⊎ Above ts y e
      here z = inr (record { list = t ∷ l; rise = subst (λ (x : ℕ). Rise ts x (t ∷ l)) z (goes d r); mem = n })

      past : (Memᴰ y l → Memᴰ e l → Memᴰ e (up_to y l) ⊎ Above ts y e) → (t ≡ y → ⊥) → (y ≡ t) ⊎ Memᴰ y l → (e ≡ t) ⊎ Memᴰ e l → Memᴰ e (up_to y (t ∷ l)) ⊎ Above ts y e
      past ih z (inl a) b = absurd (z (sym a))
      past ih z (inr a) (inl b) = inl (subst (λ (k : List ℕ). Memᴰ e k) (sym (up-past y t l z)) (Memᴰ.head b))
      past ih z (inr a) (inr b) = ⊎_elim (λ k. inl (subst (λ (j : List ℕ). Memᴰ e j) (sym (up-past y t l z)) (Memᴰ.tail k))) (λ k. inr k) (ih a b)

  -- what is above y is on each way that y is on
  rise-on : {t y e : ℕ} {l : List ℕ} → Rise ts t l → Memᴰ y l → Above ts y e → Memᴰ e l
  rise-on {t} {y} {e} {l} (ends q) m a =
      ⊎_elim (λ z. subst (λ (k : List ℕ). Memᴰ e k) (rise_one ts a.rise (subst (λ (x : ℕ). Rise ts x (t ∷ [])) (sym z) (ends q))) a.mem) (λ k. absurd (Memᴰ.not-nil k)) (Memᴰ.cases_cons m)
  rise-on {t} {y} {e} (goes {l = l} d r) m a =
      ⊎_elim (λ z. subst (λ (k : List ℕ). Memᴰ e k) (rise_one ts a.rise (subst (λ (x : ℕ). Rise ts x (t ∷ l)) (sym z) (goes d r))) a.mem) (λ k. Memᴰ.tail (rise-on r k a)) (Memᴰ.cases_cons m)

  -- y is above each that is before it
  rise-before : {t y e : ℕ} {l : List ℕ} → Rise ts t l → Memᴰ y l → Memᴰ e (up_to y l) → Above ts e y
  rise-before {t} {y} {e} {l} (ends q) m n =
      let c = up-cases y t [] n in ⊎_elim (λ z. absurd (c.0 (sym z))) (λ k. absurd (Memᴰ.not-nil k)) (Memᴰ.cases_cons m)
  rise-before {t} {y} {e} (goes {l = l} d r) m n =
      let c = up-cases y t l n in
      ⊎_elim (λ z. record { list = t ∷ l; rise = subst (λ (x : ℕ). Rise ts x (t ∷ l)) (sym z) (goes d r); mem = m })
      (λ k. ⊎_elim (λ z. absurd (c.0 (sym z))) (λ j. rise-before r j k) (Memᴰ.cases_cons m)) c.1

-- PATHS

module _ (ts : List Term) (f : Forest ts) (a b : ℕ) (wa : within (length ts) a ≡ true) (wb : within (length ts) b ≡ true) (tree : top_in ts a ≡ top_in ts b) where
  abbrev la : List ℕ
  la = above_in ts a

  abbrev lb : List ℕ
  lb = above_in ts b

  rise-a : Rise ts a la
  rise-a = rise-by ts (length ts) a (f.ended a wa)

  rise-b : Rise ts b lb
  rise-b = rise-by ts (length ts) b (f.ended b wb)

  nearest : First ts (λ x. is_in x lb) la
  nearest = first_of_lem ts (λ x. is_in x lb) (top-by ts (length ts) a (f.ended a wa)) (rw tree (in_is (top-by ts (length ts) b (f.ended b wb))))

  abbrev y : ℕ
  y = nearest.at

  y_in_b : Memᴰ y lb
  y_in_b = is_in_lem y lb nearest.passes

  path-is : path_in ts a b ≡ up_to y la ++ up_to y lb
  unfolding path_in nearest_in
  path-is = ap (λ (o : Option ℕ). up_to (or_none o) la ++ up_to (or_none o) lb) nearest.is

  not_in_b : (e : ℕ) → Memᴰ e (up_to y la) → is_in e lb ≡ false
  not_in_b e m = before-first (λ x. is_in x lb) la nearest.is m

  not_in_a : (e : ℕ) → Memᴰ e (up_to y lb) → is_in e la ≡ false
  not_in_a e m = decide (is_in e la) (λ q. ⊎_elim
      (λ n. clash (in_is (up_sub y lb m)) (not_in_b e n))
      (λ n. absurd (up-not y lb m (above_each ts (rise-before ts rise-b y_in_b m) n)))
      (rise-split ts rise-a nearest.mem (is_in_lem e la q))) (λ q. q)

  -- what holds along the path holds of each that is above one of the two alone
  pub path-each : {P : ℕ → Type 0} → Every P (path_in ts a b) → (e : ℕ) → (is_in e la ≡ is_in e lb → ⊥) → P e
  path-each {P} k e d = decide (is_in e la)
      (λ p. decide (is_in e lb) (λ q. absurd (d (p ∙ sym q)))
      (λ q. ⊎_elim (λ m. every_mem (every_left (up_to y la) _ h) m) (λ m. clash (in_is (rise-on ts rise-b y_in_b m)) q) (rise-split ts rise-a nearest.mem (is_in_lem e la p))))
      (λ p. decide (is_in e lb)
      (λ q. ⊎_elim (λ m. every_mem (every_right (up_to y la) _ h) m) (λ m. clash (in_is (rise-on ts rise-a nearest.mem m)) p) (rise-split ts rise-b y_in_b (is_in_lem e lb q)))
      (λ q. absurd (d (p ∙ sym q))))
    where
      h : Every P (up_to y la ++ up_to y lb)
      h = subst (Every P) path-is k

  -- and conversely
  pub each-path : {P : ℕ → Type 0} → ((e : ℕ) → (is_in e la ≡ is_in e lb → ⊥) → P e) → Every P (path_in ts a b)
  each-path {P} g = subst (Every P) (sym path-is) (every_append
      (every_of (up_to y la) (λ e m. g e (λ q. clash (in_is (up_sub y la m)) (q ∙ not_in_b e m))))
      (every_of (up_to y lb) (λ e m. g e (λ q. clash (in_is (up_sub y lb m)) (sym q ∙ not_in_a e m)))))
