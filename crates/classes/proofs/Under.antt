-- A root put under a term of another tree: the stamps on the path of two terms of one tree are those that were on it.
use mathlib.Core.Path.{◌≡◌, sym, ap, subst, ◌∙◌}
use mathlib.Core.Bool.{true, false, ◌||◌}
use mathlib.Core.List.Memᴰ
use mathlib.Core.List.{List, ◌∷◌, ◌++◌, Memᴰ}
use mathlib.Core.Logic.{⊎_elim}
use Prim.Native.Nat.{ℕ, ◌<◌}
use native.Mathlib.Decide.{ℕ_discrete}
use lib.ListN.{length}
use lib.Dec.{eqb}
use Rattle.records.specs.Lists.{is_in, Every}
use Rattle.records.specs.Store.{Term, term_in, within, forest_up, top_in, above_in, path_in}
use Rattle.records.proofs.Lists.{decide, clash, or_right, right_falsum, any_append}
use Rattle.records.proofs.Climbs.{top-self}
use Rattle.records.proofs.Rises.{is_in_lem, in_is, Rise, ends, goes, rise-by}
use Rattle.classes.proofs.MovedClimbs.{Moved}
use Rattle.classes.specs.Working.Carries.{Forest}
use Rattle.classes.proofs.Turning.{rise-above, rise-same}
use Rattle.classes.proofs.Flips.{root-top, top_in_lem}
use Rattle.classes.proofs.Between.{path-each, each-path}

in_append : (e : ℕ) (l k : List ℕ) → is_in e (l ++ k) ≡ (is_in e l || is_in e k)
unfolding is_in
in_append e l k = any_append (eqb e) l k

-- WAYS UP

module _ (us js : List Term) {a b : ℕ} (m : Moved (forest_up us) (forest_up js) (length us) a b) where
  -- one that does not come to a
  rise-other : {t : ℕ} {l : List ℕ} → Rise us t l → (Memᴰ a l → ⊥) → Rise js t l
  rise-other r n = rise-same r (λ u k. m.away u (λ z. n (Memᴰ.cast (sym z) k)))

  not-self : b ≡ a → ⊥
  not-self e = m.apart (ap (top_in us) e ∙ top-self us a m.self)

  -- one that ends at a goes on as b's does
  rise-under : {t : ℕ} {l k : List ℕ} → Rise us t l → Memᴰ a l → Rise js b k → Rise js t (l ++ k)
  rise-under {t} {k = k} (ends e) n r =
      ⊎_elim (λ z. subst (λ (y : ℕ). Rise js y (y ∷ k)) z (goes (λ q. not-self (sym m.at ∙ q)) (subst (λ (y : ℕ). Rise js y k) (sym m.at) r))) (λ z. absurd (Memᴰ.not-nil z)) (Memᴰ.cases_cons n)
  rise-under {t} {k = k} (goes {l = l} d q) n r =
      let x : t ≡ a → ⊥ = λ z. d (ap (forest_up us) z ∙ m.self ∙ sym z) in
      let i = m.away t x in
      goes (λ z. d (sym i ∙ z)) (subst (λ (y : ℕ). Rise js y (l ++ k)) (sym i) (rise-under q (⊎_elim (λ z. absurd (x (sym z))) (λ z. z) (Memᴰ.cases_cons n)) r))

module _ (us js : List Term) (a b : ℕ) (long : length js ≡ length us) (m : Moved (forest_up us) (forest_up js) (length us) a b) (f : Forest us) (g : Forest js)
    (away : (t : ℕ) → (t ≡ a → ⊥) → term_in js t ≡ term_in us t) where
  there : (t : ℕ) → within (length us) t ≡ true → within (length js) t ≡ true
  there t w = ap (λ (n : ℕ). within n t) long ∙ w

  rise-us : (t : ℕ) → within (length us) t ≡ true → Rise us t (above_in us t)
  rise-us t w = rise-by us (length us) t (f.ended t w)

  -- a does not stand above a term of another tree
  outside : (t : ℕ) → within (length us) t ≡ true → (top_in us t ≡ a → ⊥) → is_in a (above_in us t) ≡ false
  outside t w n = decide (is_in a (above_in us t)) (λ q. absurd (n (root-top us f t a w q m.self))) (λ q. q)

  above_other : (t : ℕ) → within (length us) t ≡ true → (top_in us t ≡ a → ⊥) → above_in js t ≡ above_in us t
  above_other t w n = rise-above g.closed (there t w) (rise-other us js m (rise-us t w) (λ k. clash (in_is k) (outside t w n)))

  above-under : (t : ℕ) → within (length us) t ≡ true → top_in us t ≡ a → above_in js t ≡ above_in us t ++ above_in us b
  above-under t w e = rise-above g.closed (there t w) (rise-under us js m (rise-us t w) (is_in_lem a (above_in us t) (top_in_lem us f t a w e))
      (rise-other us js m (rise-us b m.here) (λ k. clash (in_is k) (outside b m.here m.apart))))

  module _ (p q k : ℕ) (wp : within (length us) p ≡ true) (wq : within (length us) q ≡ true) (tree : top_in us p ≡ top_in us q) (tree' : top_in js p ≡ top_in js q)
      (h : Every (λ e. (term_in us e).stamp < k) (path_in us p q)) where
    was : (e : ℕ) → (is_in e (above_in us p) ≡ is_in e (above_in us q) → ⊥) → (e ≡ a → ⊥) → (term_in js e).stamp < k
    was e n d = subst (λ (y : Term). y.stamp < k) (sym (away e d)) (path-each us f p q wp wq tree h e n)

    pub under-path : Every (λ e. (term_in js e).stamp < k) (path_in js p q)
    under-path = each-path js g p q (there p wp) (there q wq) tree' (λ e n. go e n (ℕ_discrete (top_in us p) a))
      where
        go : (e : ℕ) → (is_in e (above_in js p) ≡ is_in e (above_in js q) → ⊥) → Dec (top_in us p ≡ a) → (term_in js e).stamp < k
        go e n (yes t) =
            let x = ap (is_in e) (above-under p wp t) ∙ in_append e (above_in us p) (above_in us b) in
            let y = ap (is_in e) (above-under q wq (sym tree ∙ t)) ∙ in_append e (above_in us q) (above_in us b) in
            decide (is_in e (above_in us b))
            (λ i. absurd (n (x ∙ or_right (is_in e (above_in us p)) _ i ∙ sym (y ∙ or_right (is_in e (above_in us q)) _ i))))
            (λ i. was e (λ z. n (x ∙ right_falsum _ _ i ∙ z ∙ sym (y ∙ right_falsum _ _ i)))
            (λ z. n (x ∙ right_falsum _ _ i ∙ ap (λ (u : ℕ). is_in u (above_in us p)) z ∙ top_in_lem us f p a wp t ∙ sym (y ∙ right_falsum _ _ i ∙ ap (λ (u : ℕ). is_in u (above_in us q)) z ∙ top_in_lem us f q a wq (sym tree ∙ t)))))
        go e n (no t) =
            let x = ap (is_in e) (above_other p wp t) in
            let y = ap (is_in e) (above_other q wq (λ z. t (tree ∙ z))) in
            was e (λ z. n (x ∙ z ∙ sym y))
            (λ z. n (x ∙ ap (λ (u : ℕ). is_in u (above_in us p)) z ∙ outside p wp t ∙ sym (y ∙ ap (λ (u : ℕ). is_in u (above_in us q)) z ∙ outside q wq (λ i. t (tree ∙ i)))))
