-- The path between two terms of one tree of the forest.
use mathlib.Core.Path.{◌≡◌, refl, sym, ap, ◌∙◌}
use mathlib.Core.Bool.{Bool, true, false, not}
use mathlib.Core.List.Memᴰ
use mathlib.Core.List.{List, [], ◌∷◌, ◌++◌, Memᴰ}
use mathlib.Core.Logic.{◌⊎◌, inl, inr, ⊎_elim}
use mathlib.Core.Option.{some}
use Prim.Native.Nat.{ℕ}
use lib.ListN.{length}
use lib.Dec.{eqb}
use borrow.Author.Tests.{eqb-true, eqb-false, eq-eqb, ne_eqb}
pub use Rattle.engine.specs.Working.Walks.{Together}
use Rattle.records.specs.Lists.{first_of, is_in, up_to, Every, none_left, and}
use Rattle.records.specs.Store.{Term, Store, term, is_term, forest_up, top, above_in, or_none, nearest_in, path_in, path, is_edge}
use Rattle.records.specs.Working.Audited.{Audited}
use Rattle.records.proofs.Lists.{every_append, every_left, every_right}
use Rattle.records.proofs.Rises.{is_in_lem, in_is, Rise, ends, goes, rise-by, top-by, first_of_lem, first_below_lem, above_each}

-- PATHS

-- the elements before x are edges, and they lead from t to x
up_to-edges : (s : Store) → Audited s → (x : ℕ) {t : ℕ} {l : List ℕ} → Rise s.terms t l → is_term s t ≡ true → Memᴰ x l
    → Every (λ e. (is_term s e ≡ true) × (is_edge s e ≡ true)) (up_to x l)
unfolding up_to
up_to-edges s a x {t} (ends e) h m = go (Memᴰ.cases_cons m)
  where
    go : (x ≡ t) ⊎ Memᴰ x [] → Every (λ e. (is_term s e ≡ true) × (is_edge s e ≡ true)) (elim (eqb t x) [ true ↦ [] | false ↦ t ∷ [] ])
    go (inl q) = rw (eq-eqb t x (sym q)) none_left
    go (inr n) = absurd (Memᴰ.not-nil n)
up_to-edges s a x {t} (goes {l = l} d r) h m = go (up_to-edges s a x r (a.classed.forest_parents t h)) (eqb t x) refl (Memᴰ.cases_cons m)
  where
    go : (Memᴰ x l → Every (λ e. (is_term s e ≡ true) × (is_edge s e ≡ true)) (up_to x l)) → (b : Bool) → eqb t x ≡ b → (x ≡ t) ⊎ Memᴰ x l
        → Every (λ e. (is_term s e ≡ true) × (is_edge s e ≡ true)) (elim b [ true ↦ [] | false ↦ t ∷ up_to x l ])
    go ih true e n = none_left
    go ih false e (inl n) = absurd (eqb-false _ _ e (sym n))
    go ih false e (inr n) = and (h, ap not (ne_eqb _ _ d)) (ih n)

up_to-joins : {B : Type 0} (w : ℕ → B) (ts : List Term) (x : ℕ) {t : ℕ} {l : List ℕ} → Rise ts t l → Memᴰ x l
    → Every (λ e. w e ≡ w (forest_up ts e)) (up_to x l) → w t ≡ w x
unfolding up_to
up_to-joins w ts x {t} (ends e) m k = ⊎_elim (λ q. ap w (sym q)) (λ n. absurd (Memᴰ.not-nil n)) (Memᴰ.cases_cons m)
up_to-joins w ts x {t} (goes {l = l} d r) m k = go (up_to-joins w ts x r) (eqb t x) refl (Memᴰ.cases_cons m) k
  where
    go : (Memᴰ x l → Every (λ e. w e ≡ w (forest_up ts e)) (up_to x l) → w (forest_up ts t) ≡ w x) → (b : Bool) → eqb t x ≡ b → (x ≡ t) ⊎ Memᴰ x l
        → Every (λ e. w e ≡ w (forest_up ts e)) (elim b [ true ↦ [] | false ↦ t ∷ up_to x l ]) → w t ≡ w x
    go ih true e n k = ap w (eqb-true _ _ e)
    go ih false e (inl n) k = absurd (eqb-false _ _ e (sym n))
    go ih false e (inr n) (and p k) = p ∙ ih n k

pub together-turned : {s : Store} {a b : ℕ} → Together s (a, b) → Together s (b, a)
together-turned t = record { left = t.right; right = t.left; tree = sym t.tree }

module _ (s : Store) (a : Audited s) where
  pub above-rise : (t : ℕ) → is_term s t ≡ true → Rise s.terms t (above_in s.terms t)
  above-rise t h = rise-by s.terms (length s.terms) t (a.classed.forest_ends t h)

  pub above-top : (t : ℕ) → is_term s t ≡ true → Memᴰ (top s t) (above_in s.terms t)
  above-top t h = top-by s.terms (length s.terms) t (a.classed.forest_ends t h)

  -- the nearest shared ancestor stands above both
  pub record Nearest (p : ℕ × ℕ) : Type 0 where
    pub at : ℕ
    pub is : nearest_in s.terms p.0 p.1 ≡ at
    pub first : first_of (λ x. is_in x (above_in s.terms p.1)) (above_in s.terms p.0) ≡ some at
    pub left : Memᴰ at (above_in s.terms p.0)
    pub right : Memᴰ at (above_in s.terms p.1)

  pub nearest : (p : ℕ × ℕ) → Together s p → Nearest p
  unfolding nearest_in
  nearest p t =
      let f = first_of_lem s.terms (λ x. is_in x (above_in s.terms p.1)) (above-top p.0 t.left) (rw t.tree (in_is (above-top p.1 t.right))) in
      record { at = f.at; is = ap or_none f.is; first = f.is; left = f.mem; right = is_in_lem _ _ f.passes }

  pub nearest_turned : (p : ℕ × ℕ) → Together s p → nearest_in s.terms p.0 p.1 ≡ nearest_in s.terms p.1 p.0
  nearest_turned p t =
      let f = nearest p t in
      let g = nearest (p.1, p.0) (together-turned t) in
      f.is ∙ above_each s.terms
      (first_below_lem s.terms (λ x. is_in x (above_in s.terms p.1)) (above-rise p.0 t.left) f.first g.right (in_is g.left))
      (first_below_lem s.terms (λ x. is_in x (above_in s.terms p.0)) (above-rise p.1 t.right) g.first f.right (in_is f.left))
      ∙ sym g.is

  -- what holds of each edge of a path holds the other way round
  pub path_turned : {P : ℕ → Type 0} (p : ℕ × ℕ) → Together s p → Every P (path s p.0 p.1) → Every P (path s p.1 p.0)
  unfolding path_in
  path_turned p t k =
      rw (sym (nearest_turned p t)) (every_append (every_right (up_to _ (above_in s.terms p.0)) _ k) (every_left (up_to _ (above_in s.terms p.0)) _ k))

  pub path_edges : (p : ℕ × ℕ) → Together s p → Every (λ e. (is_term s e ≡ true) × (is_edge s e ≡ true)) (path s p.0 p.1)
  unfolding path_in
  path_edges p t =
      let f = nearest p t in
      rw f.is (every_append (up_to-edges s a f.at (above-rise p.0 t.left) t.left f.left)
      (up_to-edges s a f.at (above-rise p.1 t.right) t.right f.right))

  -- where each edge of the path joins equals, its two ends are equal
  pub path_joins : {B : Type 0} (w : ℕ → B) (p : ℕ × ℕ) → Together s p → Every (λ e. w e ≡ w (term s e).forest_parent) (path s p.0 p.1) → w p.0 ≡ w p.1
  unfolding path_in
  path_joins w p t k = go (rw f.is at k)
    where
      f : Nearest p
      f = nearest p t

      go : Every (λ e. w e ≡ w (term s e).forest_parent) (up_to f.at (above_in s.terms p.0) ++ up_to f.at (above_in s.terms p.1)) → w p.0 ≡ w p.1
      go k = up_to-joins w s.terms f.at (above-rise p.0 t.left) f.left (every_left _ _ k)
          ∙ sym (up_to-joins w s.terms f.at (above-rise p.1 t.right) f.right (every_right (up_to f.at (above_in s.terms p.0)) _ k))
