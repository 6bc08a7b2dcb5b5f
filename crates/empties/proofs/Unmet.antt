-- The variables of no class met before: the first of them, the same list over another division, and that no two are of one class.
use mathlib.Core.Path.{◌≡◌, refl, sym, ap, ◌∙◌}
use mathlib.Core.Bool.{Bool, true, false, not, ◌||◌}
use mathlib.Core.List.{List, [], ◌∷◌}
use mathlib.Core.Option.{Option, none, some}
use Prim.Native.Nat.{ℕ, zero, suc, ◌≤◌, ◌<◌}
use native.Mathlib.Omega.{arith}
use lib.ListN.{length, get_or}
use borrow.Author.Tests.{eqb-true, eq-eqb}
use Rattle.records.specs.Lists.{any, first_of, one_more, Every, none_left, and}
use Rattle.records.specs.Store.{Store, root, same_class}
use Rattle.records.proofs.Lists.{decide, any_append, or_none_lem, or_left, or_right, same_test, every_map, every_at}
use Rattle.wordeq.proofs.Flattened.{neither_left, neither_right}
use Rattle.empties.specs.Empties.{unmet}

-- TESTS

any-more : (p : ℕ → Bool) (l : List ℕ) (x : ℕ) → any p (one_more l x) ≡ (any p l || p x)
unfolding any
any-more p l x = any_append p l (x ∷ []) ∙ ap (λ (b : Bool). any p l || b) (or_none_lem (p x))

first_hit : (p : ℕ → Bool) (a : ℕ) (l : List ℕ) → p a ≡ true → first_of p (a ∷ l) ≡ some a
unfolding first_of
first_hit p a l h = rw (h, first_of)

first_next : (p : ℕ → Bool) (a : ℕ) (l : List ℕ) → p a ≡ false → first_of p (a ∷ l) ≡ first_of p l
unfolding first_of
first_next p a l h = rw (h, first_of)

first-end : (p : ℕ → Bool) → first_of p [] ≡ none
unfolding first_of
first-end p = refl

same-itself : (s : Store) (v : ℕ) → same_class s v v ≡ true
same-itself s v = eq-eqb (root s v) (root s v) refl

pub same-turned : (s : Store) (v u : ℕ) → same_class s v u ≡ same_class s u v
same-turned s v u =
    same_test (same_class s v u) (same_class s u v)
    (λ e. eq-eqb (root s u) (root s v) (sym (eqb-true _ _ e)))
    (λ e. eq-eqb (root s v) (root s u) (sym (eqb-true _ _ e)))

-- ONE TURN

module _ (s : Store) where
  pub unmet-none : (met : List ℕ) → unmet s met [] ≡ []
  unfolding unmet
  unmet-none met = refl

  pub unmet-met : (met : List ℕ) (v : ℕ) (l : List ℕ) → any (same_class s v) met ≡ true → unmet s met (v ∷ l) ≡ unmet s met l
  unfolding unmet
  unmet-met met v l e = rw (unmet, e)

  pub unmet-new : (met : List ℕ) (v : ℕ) (l : List ℕ) → any (same_class s v) met ≡ false → unmet s met (v ∷ l) ≡ v ∷ unmet s (one_more met v) l
  unfolding unmet
  unmet-new met v l e = rw (unmet, e)

  -- no more than there are
  pub unmet-few : (met l : List ℕ) → length (unmet s met l) ≤ length l
  unmet-few met [] = let e = ap length (unmet-none met) in omega arith
  unmet-few met (v ∷ l) =
      decide (any (same_class s v) met)
      (λ e. let q = ap length (unmet-met met v l e) in let h = unmet-few met l in omega arith)
      (λ e. let q = ap length (unmet-new met v l e) in let h = unmet-few (one_more met v) l in omega arith)

  -- what holds of each holds of those listed
  pub unmet_every : {P : ℕ → Type 0} (met l : List ℕ) → Every P l → Every P (unmet s met l)
  unmet_every met [] k = rw (unmet-none met) k
  unmet_every met (v ∷ l) (and h k) =
      decide (any (same_class s v) met)
      (λ e. rw (unmet-met met v l e) (unmet_every met l k))
      (λ e. rw (unmet-new met v l e) (and h (unmet_every (one_more met v) l k)))

  -- THE FIRST

  -- q says of each that it is unmet
  abbrev Says : (ℕ → Bool) → List ℕ → List ℕ → Type 0
  Says q met l = Every (λ u. q u ≡ not (any (same_class s u) met)) l

  pub unmet-nothing : (q : ℕ → Bool) (met l : List ℕ) → Says q met l → first_of q l ≡ none → unmet s met l ≡ []
  unmet-nothing q met [] k e = unmet-none met
  unmet-nothing q met (v ∷ l) (and h k) e =
      decide (any (same_class s v) met)
      (λ b. unmet-met met v l b ∙ unmet-nothing q met l k (sym (first_next q v l (h ∙ ap not b)) ∙ e))
      (λ b. let z : ◌≡◌ {A = Option ℕ} (some v) none = sym (first_hit q v l (h ∙ ap not b)) ∙ e in let y : ◌≡◌ {A = ℕ} 0 1 = cc in absurd (omega arith))

  -- the first is listed, and the others are those of no class met, it among them
  pub unmet-first : (q : ℕ → Bool) (met l : List ℕ) (v : ℕ) → Says q met l → first_of q l ≡ some v → unmet s met l ≡ v ∷ unmet s (one_more met v) l
  unmet-first q met [] v k e = let z : ◌≡◌ {A = Option ℕ} none (some v) = sym (first-end q) ∙ e in let y : ◌≡◌ {A = ℕ} 0 1 = cc in absurd (omega arith)
  unmet-first q met (u ∷ l) v (and h k) e =
      decide (any (same_class s u) met)
      (λ b. unmet-met met u l b ∙ unmet-first q met l v k (sym (first_next q u l (h ∙ ap not b)) ∙ e)
      ∙ ap (λ (m : List ℕ). v ∷ m) (sym (unmet-met (one_more met v) u l (any-more (same_class s u) met v ∙ or_left _ (same_class s u v) b))))
      (λ b. let z : ◌≡◌ {A = Option ℕ} (some u) (some v) = sym (first_hit q u l (h ∙ ap not b)) ∙ e in let i : u ≡ v = cc in
      unmet-new met u l b ∙ ap (λ (m : List ℕ). u ∷ m) (sym (unmet-met (one_more met u) u l (any-more (same_class s u) met u ∙ or_right (any (same_class s u) met) _ (same-itself s u))))
      ∙ ap (λ (x : ℕ). x ∷ unmet s (one_more met x) (u ∷ l)) i)

  -- the first passes the test
  pub first_passes : (q : ℕ → Bool) (l : List ℕ) (v : ℕ) {P : ℕ → Type 0} → Every P l → first_of q l ≡ some v → (q v ≡ true) × P v
  first_passes q [] v k e = let z : ◌≡◌ {A = Option ℕ} none (some v) = sym (first-end q) ∙ e in let y : ◌≡◌ {A = ℕ} 0 1 = cc in absurd (omega arith)
  first_passes q (u ∷ l) v {P} (and h k) e =
      decide (q u)
      (λ b. let z : ◌≡◌ {A = Option ℕ} (some u) (some v) = sym (first_hit q u l b) ∙ e in let i : u ≡ v = cc in rw (sym i) (b, h))
      (λ b. first_passes q l v k (sym (first_next q u l b) ∙ e))

  -- NO TWO ARE OF ONE CLASS

  pub unmet-apart : (met l : List ℕ) → Every (λ x. any (same_class s x) met ≡ false) (unmet s met l)
  unmet-apart met [] = rw (unmet-none met) none_left
  unmet-apart met (v ∷ l) =
      decide (any (same_class s v) met)
      (λ b. rw (unmet-met met v l b) (unmet-apart met l))
      (λ b. rw (unmet-new met v l b) (and b (every_map (λ x h. neither_left _ (same_class s x v) (sym (any-more (same_class s x) met v) ∙ h)) (unmet-apart (one_more met v) l))))

  abbrev Distinct : List ℕ → Type 0
  Distinct l = (i j : ℕ) → i < j → j < length l → same_class s (get_or l i 0) (get_or l j 0) ≡ false

  distinct_more : (v : ℕ) (l : List ℕ) → Every (λ x. same_class s x v ≡ false) l → Distinct l → Distinct (v ∷ l)
  distinct_more v l k d zero zero h n = absurd (omega arith)
  distinct_more v l k d zero (suc j) h n = same-turned s v (get_or l j 0) ∙ every_at l j 0 k (omega arith)
  distinct_more v l k d (suc i) zero h n = absurd (omega arith)
  distinct_more v l k d (suc i) (suc j) h n = d i j (omega arith) (omega arith)

  pub unmet_distinct : (met l : List ℕ) → Distinct (unmet s met l)
  unmet_distinct met [] = rw (unmet-none met) (λ i j h n. absurd (omega arith))
  unmet_distinct met (v ∷ l) =
      decide (any (same_class s v) met)
      (λ b. rw (unmet-met met v l b) (unmet_distinct met l))
      (λ b. rw (unmet-new met v l b)
      (distinct_more v (unmet s (one_more met v) l) (every_map (λ x h. neither_right (any (same_class s x) met) _ (sym (any-more (same_class s x) met v) ∙ h)) (unmet-apart (one_more met v) l)) (unmet_distinct (one_more met v) l)))

-- OVER ANOTHER DIVISION

-- two divisions that have the same met, and the same classes of what is not
pub record Agree (P : ℕ → Type 0) (s s' : Store) (met met' : List ℕ) : Type 0 where
  pub same : (t : ℕ) → P t → any (same_class s t) met ≡ any (same_class s' t) met'
  pub others : (t u : ℕ) → P t → P u → any (same_class s t) met ≡ false → any (same_class s u) met ≡ false → same_class s t u ≡ same_class s' t u

module _ {P : ℕ → Type 0} (s s' : Store) where
  agree-more : (met met' : List ℕ) (v : ℕ) → P v → any (same_class s v) met ≡ false → Agree P s s' met met' → Agree P s s' (one_more met v) (one_more met' v)
  agree-more met met' v p n a = record {
    same = λ t i. any-more (same_class s t) met v ∙ each t i (any (same_class s t) met) refl ∙ sym (any-more (same_class s' t) met' v);
    others = λ t u i j f g. a.others t u i j (neither_left _ (same_class s t v) (sym (any-more (same_class s t) met v) ∙ f)) (neither_left _ (same_class s u v) (sym (any-more (same_class s u) met v) ∙ g));
  }
    where
      each : (t : ℕ) → P t → (b : Bool) → any (same_class s t) met ≡ b → (any (same_class s t) met || same_class s t v) ≡ (any (same_class s' t) met' || same_class s' t v)
      each t i true e = or_left _ (same_class s t v) e ∙ sym (or_left _ (same_class s' t v) (sym (a.same t i) ∙ e))
      each t i false e = let f = a.same t i in let g = a.others t v i p e n in cc

  pub unmet-agree : (met met' l : List ℕ) → Every P l → Agree P s s' met met' → unmet s met l ≡ unmet s' met' l
  unmet-agree met met' [] k a = unmet-none s met ∙ sym (unmet-none s' met')
  unmet-agree met met' (v ∷ l) (and p k) a =
      decide (any (same_class s v) met)
      (λ b. unmet-met s met v l b ∙ unmet-agree met met' l k a ∙ sym (unmet-met s' met' v l (sym (a.same v p) ∙ b)))
      (λ b. unmet-new s met v l b ∙ ap (λ (m : List ℕ). v ∷ m) (unmet-agree (one_more met v) (one_more met' v) l k (agree-more met met' v p b a))
      ∙ sym (unmet-new s' met' v l (sym (a.same v p) ∙ b)))
