-- Walking what stands above a term in the lent words: the nearest shared ancestor, and the stamps of a path.
use mathlib.Core.Path.{◌≡◌, refl, sym, ap, ◌∙◌}
use mathlib.Core.Bool.{Bool, true, false, not, ◌&&◌, ◌||◌, false≢true}
use mathlib.Core.List.{List, [], ◌∷◌}
use mathlib.Core.Logic.{⊎_elim}
use mathlib.Core.Option.{Option, none, some}
use Prim.Native.Nat.{ℕ, zero, suc, ◌+◌, ◌-◌, ◌≤◌, ◌<◌}
use native.Mathlib.Omega.{arith}
use lib.ListN.{length}
use lib.Dec.{eqb}
use borrow.Author.Tests.{eqb-true, eqb-false, eq-eqb, ne_eqb}
use Rattle.records.specs.Lists.{all, any, first_of, is_in, up_to, Every, none_left, and}
use Rattle.records.specs.Store.{Term, within, climb, forest_up, top_in, above_by, above_in, or_none, nearest_in, path_in}
use Rattle.records.specs.View.{terms_view, term_at, term_words}
use Rattle.records.specs.Working.Leaves.{levels, Lifted}
use Rattle.records.specs.Working.Audited.{Closed, Pathed}
use Rattle.records.proofs.Lists.{or_right, every_map, every_both, every_mem, all_append, either, or_left, decide, clash, within_low, within-high}
use Rattle.records.proofs.Climbs.{climb-stays, climb-up, above_step, above_root, above_is, view_forest, view_count}
use Rattle.records.proofs.Rises.{is_in_lem}

-- THE LOOP

-- what is asked of x and what is above it, f, is what was asked at first
pub record Rising {A : Type 0} (l : List ℕ) (n : ℕ) (f : List ℕ → A) (whole : A) (x i : ℕ) : Type 0 where
  pub counted : i ≤ suc n
  pub here : within n x ≡ true
  pub left : f (above_by (suc n - i) (terms_view l n) x) ≡ whole

module _ {A : Type 0} (l : List ℕ) (n : ℕ) (f : List ℕ → A) where
  pub rising_begin : (x : ℕ) → within n x ≡ true → Rising l n f (f (above_in (terms_view l n) x)) x 0
  rising_begin x w = record {
    counted = omega arith;
    here = w;
    left = (let e : suc n - 0 ≡ suc n = omega arith in rw (e, view_count l n));
  }

module _ {A : Type 0} {l : List ℕ} {n : ℕ} {f : List ℕ → A} {whole : A} {x i : ℕ} (p : Rising l n f whole x i) where
  rising-at : i ≤ n → suc n - i ≡ suc (suc n - (i + 1))
  rising-at h = omega arith

  -- the answer is met at x itself
  pub rising_stop : (v : A) → i ≤ n → ((r : List ℕ) → f (x ∷ r) ≡ v) → v ≡ whole
  unfolding above_by
  rising_stop v h e = sym (e _) ∙ (rw (rising-at h) at p.left)

  -- x is its tree's root
  pub rising-root : (y : ℕ) → i ≤ n → y ≡ (term_at l x).forest_parent → y ≡ x → f (x ∷ []) ≡ whole
  unfolding above_by
  rising-root y h e d =
      let u : forest_up (terms_view l n) x ≡ x = sym (view_forest l n x y p.here e) ∙ d in
      rw (eq-eqb (forest_up (terms_view l n) x) x u) at (rw (rising-at h) at p.left)

  pub rising_turn : (g : List ℕ → A) (y : ℕ) → Closed (forest_up (terms_view l n)) n → i ≤ n → y ≡ (term_at l x).forest_parent → (y ≡ x → ⊥) → ((r : List ℕ) → f (x ∷ r) ≡ g r) → Rising l n g whole y (i + 1)
  rising_turn g y k h e d s =
      let v : y ≡ forest_up (terms_view l n) x = view_forest l n x y p.here e in
      let q = above_step (terms_view l n) (suc n - (i + 1)) x (λ z. d (v ∙ z)) in
      record {
        counted = omega arith;
        here = rw v (k.stays x p.here);
        left = rw v (sym (s (above_by (suc n - (i + 1)) (terms_view l n) (forest_up (terms_view l n) x))) ∙ (rw q at (rw (rising-at h) at p.left)));
      }

  pub rising_done : n < i → f [] ≡ whole
  unfolding above_by
  rising_done h = let e : suc n - i ≡ 0 = omega arith in rw e at p.left

module _ {A : Type 0} (p q : A → Bool) where
  pub first-same : (l : List A) → Every (λ x. p x ≡ q x) l → first_of p l ≡ first_of q l
  unfolding first_of
  first-same [] none_left = refl
  first-same (x ∷ l) (and e k) = let h = first-same l k in cc

pub above_within : (ts : List Term) (n k x : ℕ) → Closed (forest_up ts) n → within n x ≡ true → Every (λ y. within n y ≡ true) (above_by k ts x)
unfolding above_by
above_within ts n zero x h w = none_left
above_within ts n (suc k) x h w = and w (go (eqb (forest_up ts x) x) (above_within ts n k (forest_up ts x) h (h.stays x w)))
  where
    go : (b : Bool) → Every (λ y. within n y ≡ true) (above_by k ts (forest_up ts x)) → Every (λ y. within n y ≡ true) (elim b [ true ↦ [] | false ↦ above_by k ts (forest_up ts x) ])
    go true e = none_left
    go false e = e

-- THE STAMPS OF A PATH

module _ (q : ℕ → Bool) (y x : ℕ) (r : List ℕ) where
  pub upto-end : x ≡ y → all q (up_to y (x ∷ r)) ≡ true
  unfolding up_to all
  upto-end e = rw (eq-eqb x y e, all)

  pub upto_next : (x ≡ y → ⊥) → all q (up_to y (x ∷ r)) ≡ (q x && all q (up_to y r))
  unfolding up_to all
  upto_next d = rw (ne_eqb x y d, all)

pub upto-none : (q : ℕ → Bool) (y : ℕ) → all q (up_to y []) ≡ true
unfolding up_to all
upto-none q y = refl

-- a path's stamps are those of its two sides
pub path-sides : (q : ℕ → Bool) (ts : List Term) (a b : ℕ) → all q (path_in ts a b) ≡ (all q (up_to (nearest_in ts a b) (above_in ts a)) && all q (up_to (nearest_in ts a b) (above_in ts b)))
unfolding path_in
path-sides q ts a b = all_append q _ _

-- SAME TREE, AND THE NEAREST SHARED ANCESTOR

module _ {A : Type 0} (p : A → Bool) where
  -- the first that passes passes, and has what every element has
  pub first-has : {P : A → Type 0} (l : List A) (x : A) → Every P l → first_of p l ≡ some x → P x × (p x ≡ true)
  unfolding first_of
  first-has [] x k e = let z : ◌≡◌ {A = ℕ} 0 1 = cc in absurd (omega arith)
  first-has {P} (y ∷ l) x (and h k) e = go (p y) refl (first-has l x k) e
    where
      go : (b : Bool) → p y ≡ b → (first_of p l ≡ some x → P x × (p x ≡ true)) → ◌≡◌ {A = Option A} (elim b [ true ↦ some y | false ↦ first_of p l ]) (some x) → P x × (p x ≡ true)
      go true d ih f = let z : y ≡ x = cc in (rw (← z) h, rw (← z) d)
      go false d ih f = ih f

  pub first_any : (l : List A) → first_of p l ≡ none → any p l ≡ false
  unfolding first_of any
  first_any [] e = refl
  first_any (y ∷ l) e = go (p y) (first_any l) e
    where
      go : (b : Bool) → (first_of p l ≡ none → any p l ≡ false) → ◌≡◌ {A = Option A} (elim b [ true ↦ some y | false ↦ first_of p l ]) none → (b || any p l) ≡ false
      go true ih f = let z : ◌≡◌ {A = ℕ} 0 1 = cc in absurd (omega arith)
      go false ih f = ih f

pub in_any : (p : ℕ → Bool) (l : List ℕ) (x : ℕ) → is_in x l ≡ true → p x ≡ true → any p l ≡ true
unfolding is_in any
in_any p [] x h e = absurd (false≢true h)
in_any p (y ∷ l) x h e =
    ⊎_elim (λ d. or_left (p y) _ (let z = eqb-true x y d in rw (← z) e)) (λ d. or_right (p y) _ (in_any p l x d e)) (either (eqb x y) _ h)

-- the tree's root stands above each of its terms
pub top_above : (ts : List Term) (k x : ℕ) → is_in (climb (forest_up ts) k x) (above_by (suc k) ts x) ≡ true
unfolding above_by is_in any climb
top_above ts zero x = or_left (eqb x x) _ (eq-eqb x x refl)
top_above ts (suc k) x = decide (eqb (forest_up ts x) x)
    (λ e. or_left _ _ (eq-eqb _ x (let d = eqb-true (forest_up ts x) x e in rw d (climb-stays (forest_up ts) k x d))))
    (λ e. or_right (eqb (climb (forest_up ts) k (forest_up ts x)) x) _ (rw (e, any) (top_above ts k (forest_up ts x))))

module _ (ts : List Term) (closed : Closed (forest_up ts) (length ts)) (ends : (t : ℕ) → within (length ts) t ≡ true → forest_up ts (top_in ts t) ≡ top_in ts t) where
  -- what stands above a term is in its tree
  pub above-top : (k x : ℕ) → within (length ts) x ≡ true → Every (λ y. top_in ts y ≡ top_in ts x) (above_by k ts x)
  unfolding above_by
  above-top zero x w = none_left
  above-top (suc k) x w = and refl (go (eqb (forest_up ts x) x)
      (every_map (λ y e. e ∙ climb-up (forest_up ts) (length ts) x (ends x w)) (above-top k (forest_up ts x) (closed.stays x w))))
    where
      go : (b : Bool) → Every (λ y. top_in ts y ≡ top_in ts x) (above_by k ts (forest_up ts x)) → Every (λ y. top_in ts y ≡ top_in ts x) (elim b [ true ↦ [] | false ↦ above_by k ts (forest_up ts x) ])
      go true e = none_left
      go false e = e

  module _ (a b : ℕ) (wa : within (length ts) a ≡ true) (wb : within (length ts) b ≡ true) where
    -- there is one exactly where the two are in one tree
    pub nearest-tree : eqb (top_in ts a) (top_in ts b) ≡ not (eqb (nearest_in ts a b) 0)
    unfolding nearest_in
    nearest-tree = go (first_of (λ x. is_in x (above_in ts b)) (above_in ts a)) refl
      where
        both : Every (λ x. (within (length ts) x ≡ true) × (top_in ts x ≡ top_in ts a)) (above_in ts a)
        both = every_both (above_within ts (length ts) (suc (length ts)) a closed wa) (above-top (suc (length ts)) a wa)

        go : (o : Option ℕ) → first_of (λ x. is_in x (above_in ts b)) (above_in ts a) ≡ o → eqb (top_in ts a) (top_in ts b) ≡ not (eqb (or_none o) 0)
        go none e = ne_eqb (top_in ts a) (top_in ts b) (λ d. clash (in_any (λ x. is_in x (above_in ts b)) (above_in ts a) (top_in ts a) (top_above ts (length ts) a) (rw d (top_above ts (length ts) b))) (first_any _ _ e))
        go (some x) e =
            let h = first-has (λ x. is_in x (above_in ts b)) (above_in ts a) x both e in
            let u : top_in ts x ≡ top_in ts b = every_mem (above-top (suc (length ts)) b wb) (is_in_lem x (above_in ts b) h.1) in
            let l = within_low (length ts) x h.0.0 in
            let n : eqb x 0 ≡ false = ne_eqb x 0 (λ z. omega arith) in
            eq-eqb _ _ (sym h.0.1 ∙ u) ∙ sym (ap not n)

-- GOING UP TO THE NEAREST SHARED ANCESTOR

levels-some : (ts : List Term) (t : ℕ) → 1 ≤ levels ts t
unfolding above_by
levels-some ts t = omega arith

-- a root alone has one
levels-root : (ts : List Term) (t : ℕ) → (levels ts t ≡ 1 → ⊥) → forest_up ts t ≡ t → ⊥
levels-root ts t d e = d (ap length (above_root ts t e))

-- the first that passes, where the head does not
first-later : {A : Type 0} (p : A → Bool) (x : A) (l : List A) → p x ≡ false → first_of p (x ∷ l) ≡ first_of p l
unfolding first_of
first-later p x l e = rw (e, first_of)

first-none : {A : Type 0} (p : A → Bool) → first_of p [] ≡ none
unfolding first_of
first-none p = refl

in_none : (x : ℕ) → is_in x [] ≡ false
unfolding is_in any
in_none x = refl

in_later : (x y : ℕ) (l : List ℕ) → (x ≡ y → ⊥) → is_in x (y ∷ l) ≡ is_in x l
unfolding is_in any
in_later x y l d = rw (ne_eqb x y d)

module _ (ts : List Term) (closed : Closed (forest_up ts) (length ts)) (ends : (t : ℕ) → within (length ts) t ≡ true → forest_up ts (top_in ts t) ≡ top_in ts t) where
  -- what stands above a term has no more above it
  above-fewer : (k x : ℕ) → within (length ts) x ≡ true → Every (λ y. levels ts y ≤ levels ts x) (above_by k ts x)
  unfolding above_by
  above-fewer zero x w = none_left
  above-fewer (suc k) x w = and {a = x} (let h : levels ts x ≤ levels ts x = omega arith in h) (go (eqb (forest_up ts x) x) refl (above-fewer k (forest_up ts x) (closed.stays x w)))
    where
      go : (b : Bool) → eqb (forest_up ts x) x ≡ b → Every (λ y. levels ts y ≤ levels ts (forest_up ts x)) (above_by k ts (forest_up ts x))
          → Every (λ y. levels ts y ≤ levels ts x) (elim b [ true ↦ [] | false ↦ above_by k ts (forest_up ts x) ])
      go true e i = none_left
      go false e i = let u = ap length (above_is ts x (ends x w) (eqb-false (forest_up ts x) x e)) in every_map (λ y h. omega (arith, u)) i

  module _ (a b : ℕ) (wa : within (length ts) a ≡ true) (wb : within (length ts) b ≡ true) where
    -- a term with more above it than b has does not stand above b
    above-not : levels ts b < levels ts a → is_in a (above_in ts b) ≡ false
    above-not h = decide (is_in a (above_in ts b))
        (λ e. let z = every_mem (above-fewer (suc (length ts)) b wb) (is_in_lem a (above_in ts b) e) in absurd (omega arith))
        (λ e. e)

  module _ (a b : ℕ) (wa : within (length ts) a ≡ true) (wb : within (length ts) b ≡ true) where
    -- another term than b that has as many above it does not stand above b
    above_other : (a ≡ b → ⊥) → levels ts b ≤ levels ts a → is_in a (above_in ts b) ≡ false
    above_other d h = decide (eqb (forest_up ts b) b)
        (λ e. rw (above_root ts b (eqb-true (forest_up ts b) b e)) (in_later a b [] d ∙ in_none a))
        (λ e.
        let u = above_is ts b (ends b wb) (eqb-false (forest_up ts b) b e) in
        let n = ap length u in
        rw u (in_later a b (above_in ts (forest_up ts b)) d ∙ above-not a (forest_up ts b) wa (closed.stays b wb) (omega arith)))

    -- the one with more above it goes up; so does a, where it has as many as b and is another
    pub nearest-left : (a ≡ b → ⊥) → levels ts b ≤ levels ts a → (forest_up ts a ≡ a → ⊥) → nearest_in ts a b ≡ nearest_in ts (forest_up ts a) b
    unfolding nearest_in
    nearest-left d h u =
        rw (above_is ts a (ends a wa) u) (ap or_none (first-later (λ x. is_in x (above_in ts b)) a (above_in ts (forest_up ts a)) (above_other d h)))

    pub nearest-right : levels ts a < levels ts b → nearest_in ts a b ≡ nearest_in ts a (forest_up ts b)
    unfolding nearest_in
    nearest-right h =
        let u = above_is ts b (ends b wb) (levels-root ts b (let l = levels-some ts a in omega arith)) in
        rw u (ap or_none (first-same (λ x. is_in x (b ∷ above_in ts (forest_up ts b))) (λ x. is_in x (above_in ts (forest_up ts b))) (above_in ts a)
        (every_map (λ x k. in_later x b (above_in ts (forest_up ts b)) (λ e. let z = ap (levels ts) e in omega arith)) (above-fewer (suc (length ts)) a wa))))

    -- two roots have none
    pub nearest-none : (a ≡ b → ⊥) → levels ts a ≡ 1 → levels ts b ≤ 1 → nearest_in ts a b ≡ 0
    unfolding nearest_in
    nearest-none d h k = decide (eqb (forest_up ts a) a)
        (λ e.
        rw (above_root ts a (eqb-true (forest_up ts a) a e))
        (ap or_none (first-later (λ x. is_in x (above_in ts b)) a [] (above_other d (omega arith)) ∙ first-none (λ x. is_in x (above_in ts b)))))
        (λ e.
        let u = ap length (above_is ts a (ends a wa) (eqb-false (forest_up ts a) a e)) in
        let z = levels-some ts (forest_up ts a) in absurd (omega arith))

pub nearest-self : (ts : List Term) (x : ℕ) → nearest_in ts x x ≡ x
unfolding nearest_in above_by first_of is_in any
nearest-self ts x = rw (eq-eqb x x refl, first_of, or_none)

-- IN THE LENT WORDS

module _ (l : List ℕ) (n : ℕ) (h : Pathed l n) where
  closed : Closed (forest_up (terms_view l n)) (length (terms_view l n))
  closed = rw (view_count l n) h.tops

  inside : (t : ℕ) → within n t ≡ true → within (length (terms_view l n)) t ≡ true
  inside t w = rw (view_count l n) w

  ends : (t : ℕ) → within (length (terms_view l n)) t ≡ true → forest_up (terms_view l n) (top_in (terms_view l n) t) ≡ top_in (terms_view l n) t
  ends t w = h.ends t (rw (view_count l n) at w)

  -- a term's words are lent
  pub pathed-words : (t : ℕ) → within n t ≡ true → term_words t ≤ length l
  pathed-words t w = omega (arith, within-high n t w, h.room)

  module _ (x p : ℕ) (w : within n x ≡ true) (e : p ≡ (term_at l x).forest_parent) where
    up_is : p ≡ forest_up (terms_view l n) x
    up_is = view_forest l n x p w e

    up-here : within n p ≡ true
    up-here = rw up_is (h.tops.stays x w)

    -- a root is alone
    levels-one : p ≡ x → levels (terms_view l n) x ≡ 1
    levels-one d = ap length (above_root (terms_view l n) x (sym up_is ∙ d))

    -- any other term has one more than its parent
    pub levels-up : (p ≡ x → ⊥) → levels (terms_view l n) x ≡ suc (levels (terms_view l n) p)
    levels-up d = rw up_is (ap length (above_is (terms_view l n) x (ends x (inside x w)) (λ z. d (up_is ∙ z))))

    -- a term with another above it is no root
    not_root : (levels (terms_view l n) x ≡ 1 → ⊥) → p ≡ x → ⊥
    not_root d q = d (levels-one q)

    module _ (b : ℕ) (wb : within n b ≡ true) where
      up_left : (x ≡ b → ⊥) → levels (terms_view l n) b ≤ levels (terms_view l n) x → (p ≡ x → ⊥) → nearest_in (terms_view l n) x b ≡ nearest_in (terms_view l n) p b
      up_left d k u = rw up_is (nearest-left (terms_view l n) closed ends x b (inside x w) (inside b wb) d k (λ z. u (up_is ∙ z)))

      up_right : levels (terms_view l n) b < levels (terms_view l n) x → nearest_in (terms_view l n) b x ≡ nearest_in (terms_view l n) b p
      up_right k = rw up_is (nearest-right (terms_view l n) closed ends b x (inside b wb) (inside x w) k)

-- TWO TERMS WITH EQUALLY MANY ABOVE THEM

-- x and y are on the way up from a and b
pub record Meeting (l : List ℕ) (n a b x y : ℕ) : Type 0 where
  pub here : within n x ≡ true
  pub there : within n y ≡ true
  pub even : levels (terms_view l n) x ≡ levels (terms_view l n) y
  pub same : nearest_in (terms_view l n) x y ≡ nearest_in (terms_view l n) a b

pub meeting_begin : (l : List ℕ) (n a b : ℕ) → within n a ≡ true → within n b ≡ true → levels (terms_view l n) a ≡ levels (terms_view l n) b → Meeting l n a b a b
meeting_begin l n a b wa wb e = record { here = wa; there = wb; even = e; same = refl }

module _ (l : List ℕ) (n a b x y : ℕ) (h : Pathed l n) (m : Meeting l n a b x y) where
  pub meeting_met : x ≡ y → x ≡ nearest_in (terms_view l n) a b
  meeting_met e = sym (nearest-self (terms_view l n) x) ∙ (rw (← e) at m.same)

  module _ (d : x ≡ y → ⊥) (p : ℕ) (ep : p ≡ (term_at l x).forest_parent) where
    pub meeting_none : p ≡ x → 0 ≡ nearest_in (terms_view l n) a b
    meeting_none z =
        let one = levels-one l n h x p m.here ep z in
        sym (nearest-none (terms_view l n) (closed l n h) (ends l n h) x y (inside l n h x m.here) (inside l n h y m.there) d one (omega (arith, m.even))) ∙ m.same

    module _ (u : p ≡ x → ⊥) where
      pub meeting_less : levels (terms_view l n) p < levels (terms_view l n) x
      meeting_less = omega (arith, levels-up l n h x p m.here ep u)

      pub meeting_turn : (q : ℕ) → q ≡ (term_at l y).forest_parent → Meeting l n a b p q
      meeting_turn q eq =
          let f = levels-up l n h x p m.here ep u in
          let o = not_root l n h y q m.there eq (λ z. omega (arith, m.even, levels-some (terms_view l n) p)) in
          let g = levels-up l n h y q m.there eq o in
          let wp = up-here l n h x p m.here ep in
          record {
            here = wp;
            there = up-here l n h y q m.there eq;
            even = omega (arith, m.even);
            same = sym (up_left l n h x p m.here ep y m.there d (omega (arith, m.even)) u ∙ up_right l n h y q m.there eq p wp (omega (arith, m.even))) ∙ m.same;
          }

-- ONE OF THEM LIFTED

-- z is on the way up from t as w is from y
pub record Lifting (l : List ℕ) (n t y z w : ℕ) : Type 0 where
  pub here : within n z ≡ true
  pub there : within n w ≡ true
  pub even : levels (terms_view l n) z + levels (terms_view l n) y ≡ levels (terms_view l n) t + levels (terms_view l n) w
  pub left : (b : ℕ) → within n b ≡ true → levels (terms_view l n) b ≤ levels (terms_view l n) z → nearest_in (terms_view l n) z b ≡ nearest_in (terms_view l n) t b
  pub right : (b : ℕ) → within n b ≡ true → levels (terms_view l n) b ≤ levels (terms_view l n) z → nearest_in (terms_view l n) b z ≡ nearest_in (terms_view l n) b t

pub lifting_begin : (l : List ℕ) (n t y : ℕ) → within n t ≡ true → within n y ≡ true → Lifting l n t y t y
lifting_begin l n t y wt wy = record { here = wt; there = wy; even = refl; left = λ b w k. refl; right = λ b w k. refl }

module _ (l : List ℕ) (n t y z w : ℕ) (h : Pathed l n) (m : Lifting l n t y z w) (q : ℕ) (eq : q ≡ (term_at l w).forest_parent) where
  pub lifting_done : q ≡ w → Lifted l n t y z
  lifting_done e =
      let one = levels-one l n h w q m.there eq e in
      record { here = m.here; many = omega (arith, m.even); left = m.left; right = m.right }

  module _ (u : q ≡ w → ⊥) where
    pub lifting_less : levels (terms_view l n) q < levels (terms_view l n) w
    lifting_less = omega (arith, levels-up l n h w q m.there eq u)

    pub lifting_turn : levels (terms_view l n) y ≤ levels (terms_view l n) t → (v : ℕ) → v ≡ (term_at l z).forest_parent → Lifting l n t y v q
    lifting_turn k v ev =
        let f = levels-up l n h w q m.there eq u in
        let o = not_root l n h z v m.here ev (λ e. omega (arith, m.even, levels-some (terms_view l n) q)) in
        let g = levels-up l n h z v m.here ev o in
        record {
          here = up-here l n h z v m.here ev;
          there = up-here l n h w q m.there eq;
          even = omega (arith, m.even);
          left = λ b wb j. sym (up_left l n h z v m.here ev b wb (λ e. let r = ap (levels (terms_view l n)) e in omega arith) (omega arith) o) ∙ m.left b wb (omega arith);
          right = λ b wb j. sym (up_right l n h z v m.here ev b wb (omega arith)) ∙ m.right b wb (omega arith);
        }

-- BOTH CLIMBED FROM AT ONCE

-- x is as far above a as y above b
pub record Abreast (l : List ℕ) (n a b x y : ℕ) : Type 0 where
  pub here : within n x ≡ true
  pub there : within n y ≡ true
  pub even : levels (terms_view l n) a + levels (terms_view l n) y ≡ levels (terms_view l n) b + levels (terms_view l n) x

pub abreast_begin : (l : List ℕ) (n a b : ℕ) → within n a ≡ true → within n b ≡ true → Abreast l n a b a b
abreast_begin l n a b wa wb = record { here = wa; there = wb; even = omega arith }

-- the two sides exchanged
pub abreast_turned : {l : List ℕ} {n a b x y : ℕ} → Abreast l n a b x y → Abreast l n b a y x
abreast_turned m = record { here = m.there; there = m.here; even = omega (arith, m.even) }

module _ (l : List ℕ) (n a b x y : ℕ) (h : Pathed l n) (wa : within n a ≡ true) (m : Abreast l n a b x y) (p : ℕ) (ep : p ≡ (term_at l x).forest_parent) where
  -- a's side is at its root: b has no fewer above it than a
  module _ (e : p ≡ x) where
    pub abreast_lift : levels (terms_view l n) y ≤ levels (terms_view l n) b
    abreast_lift = omega (arith, m.even, levels-one l n h x p m.here ep e, levels-some (terms_view l n) a)

    module _ (z : ℕ) (i : Lifted l n b y z) where
      pub abreast_even : levels (terms_view l n) a ≡ levels (terms_view l n) z
      abreast_even = omega (arith, m.even, i.many, levels-one l n h x p m.here ep e)

      -- z meets a where b does, whichever of the two is named first
      pub abreast_met : (r : ℕ)
          → (r ≡ nearest_in (terms_view l n) a z → r ≡ nearest_in (terms_view l n) a b) × (r ≡ nearest_in (terms_view l n) z a → r ≡ nearest_in (terms_view l n) b a)
      abreast_met r = let k : levels (terms_view l n) a ≤ levels (terms_view l n) z = omega (arith, abreast_even) in (λ j. j ∙ i.right a wa k, λ j. j ∙ i.left a wa k)

  module _ (d : p ≡ x → ⊥) where
    pub abreast_less : levels (terms_view l n) p < levels (terms_view l n) x
    abreast_less = omega (arith, levels-up l n h x p m.here ep d)

    pub abreast_turn : (q : ℕ) → q ≡ (term_at l y).forest_parent → (q ≡ y → ⊥) → Abreast l n a b p q
    abreast_turn q eq u = record {
      here = up-here l n h x p m.here ep;
      there = up-here l n h y q m.there eq;
      even = omega (arith, m.even, levels-up l n h x p m.here ep d, levels-up l n h y q m.there eq u);
    }
