-- One edge turned round: what stands above each term, the trees, and the stamps on each path.
use mathlib.Core.Path.{◌≡◌, refl, sym, ap, subst, ◌∙◌}
use mathlib.Core.Bool.{Bool, true, false, not, ◌||◌}
use mathlib.Core.List.{List, [], ◌∷◌}
use Prim.Native.Nat.{ℕ, suc, ◌<◌}
use native.Mathlib.Decide.{ℕ_discrete}
use native.Mathlib.Omega.{arith}
use lib.ListN.{length}
use lib.Dec.{eqb}
use borrow.Author.Tests.{eq-eqb, ne_eqb}
use Rattle.records.specs.Lists.{any, is_in, Every}
use Rattle.records.specs.Store.{Term, term_in, within, forest_up, top_in, above_in, path_in}
use Rattle.records.specs.Working.Audited.{Closed}
use Rattle.records.proofs.Lists.{decide, clash, or_left, every_mem}
use Rattle.records.proofs.Climbs.{top-self}
use Rattle.records.proofs.Repeats.{climb_enough}
use Rattle.records.proofs.Paths.{above-top}
use Rattle.records.proofs.Rises.{is_in_lem, in_is, Rise, ends, goes, rise-by, rise_one, top-by}
use Rattle.classes.specs.Joins.{no_edge, edge_of}
use Rattle.classes.specs.Working.Carries.{Forest}
use Rattle.classes.proofs.Tables.{Flipped}
use Rattle.classes.proofs.Turning.{rise-ends, rise-above, up-child, up-parent, up-away, flip_closed}
use Rattle.classes.proofs.Between.{path-each, each-path}

-- LISTS

module _ {e t : ℕ} (l : List ℕ) where
  in_here : e ≡ t → is_in e (t ∷ l) ≡ true
  unfolding is_in any
  in_here q = or_left _ _ (eq-eqb e t q)

  in_past : (e ≡ t → ⊥) → is_in e (t ∷ l) ≡ is_in e l
  unfolding is_in any
  in_past d = rw (ne_eqb e t d)

in_both : (e t : ℕ) (l m : List ℕ) → is_in e l ≡ is_in e m → is_in e (t ∷ l) ≡ is_in e (t ∷ m)
unfolding is_in any
in_both e t l m q = ap (λ (b : Bool). eqb e t || b) q

in_none : (e : ℕ) → is_in e [] ≡ false
unfolding is_in any
in_none e = refl

-- a root that stands above t is its tree's
pub root-top : (ts : List Term) → Forest ts → (t u : ℕ) → within (length ts) t ≡ true → is_in u (above_in ts t) ≡ true → forest_up ts u ≡ u → top_in ts t ≡ u
root-top ts f t u w m e =
    sym (every_mem (above-top ts f.closed f.ended (suc (length ts)) t w) (is_in_lem u (above_in ts t) m)) ∙ top-self ts u e

-- and each tree's root stands above its terms
pub top_in_lem : (ts : List Term) → Forest ts → (t u : ℕ) → within (length ts) t ≡ true → top_in ts t ≡ u → is_in u (above_in ts t) ≡ true
top_in_lem ts f t u w e = subst (λ (z : ℕ). is_in z (above_in ts t) ≡ true) e (in_is (top-by ts (length ts) t (f.ended t w)))

module _ {ts us : List Term} {x p : ℕ} (f : Flipped ts us x p) (up-x : forest_up ts x ≡ p) (d : p ≡ x → ⊥) (root-p : forest_up ts p ≡ p) where
  not_root : forest_up ts x ≡ x → ⊥
  not_root e = d (sym up-x ∙ e)

  -- WHAT STANDS ABOVE

  -- what stands above t, where l did: outside p's tree the same; in it x last, p too unless x stood there, and every other term that did
  record Way (t : ℕ) (l : List ℕ) : Type 0 where
    list : List ℕ
    rise : Rise us t list
    other : (e : ℕ) → (e ≡ x → ⊥) → (e ≡ p → ⊥) → is_in e list ≡ is_in e l
    inside : is_in p l ≡ true → (is_in x list ≡ true) × (is_in p list ≡ not (is_in x l))
    outside : is_in p l ≡ false → list ≡ l

  way_p : (t : ℕ) → t ≡ p → Way t (t ∷ [])
  way_p t e = record {
    list = t ∷ x ∷ [];
    rise = subst (λ (z : ℕ). Rise us z (z ∷ x ∷ [])) (sym e) (goes (λ z. d (sym z ∙ up-parent f)) (subst (λ (z : ℕ). Rise us z (x ∷ [])) (sym (up-parent f)) (ends (up-child f))));
    other = λ u c b. in_both u t (x ∷ []) [] (in_past [] c);
    inside = λ h. (in_past (x ∷ []) (λ z. d (sym e ∙ sym z)) ∙ in_here [] refl, in_here (x ∷ []) (sym e) ∙ sym (ap not (in_past [] (λ z. d (sym e ∙ sym z)) ∙ in_none x)));
    outside = λ h. clash (in_here [] (sym e)) h;
  }

  way_root : (t : ℕ) → (t ≡ p → ⊥) → forest_up ts t ≡ t → Way t (t ∷ [])
  way_root t n e = record {
    list = t ∷ [];
    rise = ends (up-away f t (λ z. not_root (subst (λ (y : ℕ). forest_up ts y ≡ y) z e)) n ∙ e);
    other = λ u c b. refl;
    inside = λ h. clash h (in_past [] (λ z. n (sym z)) ∙ in_none p);
    outside = λ h. refl;
  }

  way_x : (t : ℕ) (l : List ℕ) → t ≡ x → l ≡ p ∷ [] → Way t (t ∷ l)
  way_x t l e q = record {
    list = t ∷ [];
    rise = ends (subst (λ (y : ℕ). forest_up us y ≡ y) (sym e) (up-child f));
    other = λ u c b. in_both u t [] l (in_none u ∙ sym (ap (is_in u) q ∙ in_past [] b ∙ in_none u));
    inside = λ h. (in_here [] (sym e), in_past [] (λ z. d (z ∙ e)) ∙ in_none p ∙ sym (ap not (in_here l (sym e))));
    outside = λ h. clash (in_past l (λ z. d (z ∙ e)) ∙ ap (is_in p) q ∙ in_here [] refl) h;
  }

  way_step : (t : ℕ) (l : List ℕ) → (t ≡ x → ⊥) → (t ≡ p → ⊥) → (forest_up ts t ≡ t → ⊥) → Way (forest_up ts t) l → Way t (t ∷ l)
  way_step t l a b q k =
      let i : forest_up us t ≡ forest_up ts t = up-away f t a b in
      record {
        list = t ∷ k.list;
        rise = goes (λ z. q (sym i ∙ z)) (subst (λ (z : ℕ). Rise us z k.list) (sym i) k.rise);
        other = λ u c e. in_both u t k.list l (k.other u c e);
        inside = λ h. let j = k.inside (sym (in_past l (λ z. b (sym z))) ∙ h) in
            (in_past k.list (λ z. a (sym z)) ∙ j.0, in_past k.list (λ z. b (sym z)) ∙ j.1 ∙ sym (ap not (in_past l (λ z. a (sym z)))));
        outside = λ h. ap (λ (m : List ℕ). t ∷ m) (k.outside (sym (in_past l (λ z. b (sym z))) ∙ h));
      }

  way : {t : ℕ} {l : List ℕ} → Rise ts t l → Way t l
  way {t} (ends e) = go (ℕ_discrete t p)
    where
      go : Dec (t ≡ p) → Way t (t ∷ [])
      go (yes q) = way_p t q
      go (no n) = way_root t n e
  way {t} (goes {l = l} q r) = go (way r) (ℕ_discrete t x)
    where
      go : Way (forest_up ts t) l → Dec (t ≡ x) → Way t (t ∷ l)
      go k (yes e) = way_x t l e (rise_one ts r (subst (λ (z : ℕ). Rise ts z (p ∷ [])) (sym (ap (forest_up ts) e ∙ up-x)) (ends root-p)))
      go k (no n) = way_step t l n (λ e. q (ap (forest_up ts) e ∙ root-p ∙ sym e)) q k

  -- THE FOREST

  module _ (g : Forest ts) (wx : within (length ts) x ≡ true) where
    same_within : (t : ℕ) → within (length us) t ≡ within (length ts) t
    same_within t = ap (λ (n : ℕ). within n t) f.long

    up_rise : (t : ℕ) → within (length ts) t ≡ true → Way t (above_in ts t)
    up_rise t w = way (rise-by ts (length ts) t (g.ended t w))

    closed' : Closed (forest_up us) (length us)
    closed' = flip_closed f wx g.closed

    ended' : (t : ℕ) → within (length us) t ≡ true → forest_up us (top_in us t) ≡ top_in us t
    ended' t w = let k = rise-ends (up_rise t (sym (same_within t) ∙ w)).rise in climb_enough (forest_up us) (length us) t closed' w k.steps k.self

    unlabelled' : (t : ℕ) → within (length us) t ≡ true → forest_up us t ≡ t → edge_of (term_in us t) ≡ no_edge t
    unlabelled' t w e = go (ℕ_discrete t x) (ℕ_discrete t p)
      where
        go : Dec (t ≡ x) → Dec (t ≡ p) → edge_of (term_in us t) ≡ no_edge t
        go (yes a) b = subst (λ (z : ℕ). edge_of (term_in us z) ≡ no_edge z) (sym a) (ap edge_of f.child)
        go (no a) (yes b) = absurd (a (sym e ∙ ap (forest_up us) b ∙ up-parent f))
        go (no a) (no b) = ap edge_of (f.away t a b) ∙ g.unlabelled t (sym (same_within t) ∙ w) (sym (up-away f t a b) ∙ e)

    pub flip_forest : Forest us
    flip_forest = record { closed = closed'; ended = ended'; unlabelled = unlabelled' }

    above_is : (t : ℕ) (w : within (length ts) t ≡ true) → above_in us t ≡ (up_rise t w).list
    above_is t w = rise-above closed' (same_within t ∙ w) (up_rise t w).rise

    -- TREES

    pub flip_tree : (t : ℕ) → within (length ts) t ≡ true → top_in ts t ≡ p → top_in us t ≡ x
    flip_tree t w e = root-top us flip_forest t x (same_within t ∙ w) (ap (is_in x) (above_is t w) ∙ ((up_rise t w).inside (top_in_lem ts g t p w e)).0) (up-child f)

    not_p_in : (t : ℕ) → within (length ts) t ≡ true → (top_in ts t ≡ p → ⊥) → is_in p (above_in ts t) ≡ false
    not_p_in t w n = decide (is_in p (above_in ts t)) (λ m. absurd (n (root-top ts g t p w m root-p))) (λ m. m)

    pub flip_other : (t : ℕ) → within (length ts) t ≡ true → (top_in ts t ≡ p → ⊥) → top_in us t ≡ top_in ts t
    flip_other t w n =
        let r = g.ended t w in
        root-top us flip_forest t (top_in ts t) (same_within t ∙ w) (ap (is_in (top_in ts t)) (above_is t w ∙ (up_rise t w).outside (not_p_in t w n)) ∙ top_in_lem ts g t (top_in ts t) w refl)
        (up-away f (top_in ts t) (λ z. not_root (subst (λ (y : ℕ). forest_up ts y ≡ y) z r)) n ∙ r)

    module _ (a b : ℕ) (wa : within (length ts) a ≡ true) (wb : within (length ts) b ≡ true) where
      pub flip_together : top_in ts a ≡ top_in ts b → top_in us a ≡ top_in us b
      flip_together e = go (ℕ_discrete (top_in ts a) p)
        where
          go : Dec (top_in ts a ≡ p) → top_in us a ≡ top_in us b
          go (yes q) = flip_tree a wa q ∙ sym (flip_tree b wb (sym e ∙ q))
          go (no n) = flip_other a wa n ∙ e ∙ sym (flip_other b wb (λ q. n (e ∙ q)))

      never_x : (t : ℕ) → within (length ts) t ≡ true → top_in ts t ≡ x → ⊥
      never_x t w e = not_root (subst (λ (y : ℕ). forest_up ts y ≡ y) e (g.ended t w))

      pub flip_apart : top_in us a ≡ top_in us b → top_in ts a ≡ top_in ts b
      flip_apart e = go (ℕ_discrete (top_in ts a) p) (ℕ_discrete (top_in ts b) p)
        where
          go : Dec (top_in ts a ≡ p) → Dec (top_in ts b ≡ p) → top_in ts a ≡ top_in ts b
          go (yes q) (yes r) = q ∙ sym r
          go (yes q) (no r) = absurd (never_x b wb (sym (flip_other b wb r) ∙ sym e ∙ flip_tree a wa q))
          go (no q) (yes r) = absurd (never_x a wa (sym (flip_other a wa q) ∙ e ∙ flip_tree b wb r))
          go (no q) (no r) = sym (flip_other a wa q) ∙ e ∙ flip_other b wb r

      -- PATHS

      -- the stamps on the path are those that were on it
      pub flip_path : (m : ℕ) → top_in ts a ≡ top_in ts b → Every (λ e. (term_in ts e).stamp < m) (path_in ts a b) → Every (λ e. (term_in us e).stamp < m) (path_in us a b)
      flip_path m tree k = each-path us flip_forest a b (same_within a ∙ wa) (same_within b ∙ wb) (flip_together tree)
          (λ e n. here e (λ q. n (ap (is_in e) (above_is a wa) ∙ q ∙ sym (ap (is_in e) (above_is b wb)))) (ℕ_discrete e x) (ℕ_discrete e p) (ℕ_discrete (top_in ts a) p))
        where
          was : (e : ℕ) → (is_in e (above_in ts a) ≡ is_in e (above_in ts b) → ⊥) → (term_in ts e).stamp < m
          was = path-each ts g a b wa wb tree k

          here : (e : ℕ) → (is_in e (up_rise a wa).list ≡ is_in e (up_rise b wb).list → ⊥) → Dec (e ≡ x) → Dec (e ≡ p) → Dec (top_in ts a ≡ p) → (term_in us e).stamp < m
          here e n c q (no t) =
              let ia = (up_rise a wa).outside (not_p_in a wa t) in
              let ib = (up_rise b wb).outside (not_p_in b wb (λ z. t (tree ∙ z))) in
              let h = was e (λ z. n (ap (is_in e) ia ∙ z ∙ sym (ap (is_in e) ib))) in
              out h c q
            where
              out : (term_in ts e).stamp < m → Dec (e ≡ x) → Dec (e ≡ p) → (term_in us e).stamp < m
              out h (yes z) q = let i : (term_in us e).stamp ≡ 0 = ap (λ (y : ℕ). (term_in us y).stamp) z ∙ ap (λ (y : Term). y.stamp) f.child in omega arith
              out h (no z) (yes q) = absurd (n (ap (is_in e) ((up_rise a wa).outside (not_p_in a wa t)) ∙ ap (λ (y : ℕ). is_in y (above_in ts a)) q ∙ not_p_in a wa t
                  ∙ sym (ap (is_in e) ((up_rise b wb).outside (not_p_in b wb (λ z. t (tree ∙ z)))) ∙ ap (λ (y : ℕ). is_in y (above_in ts b)) q ∙ not_p_in b wb (λ z. t (tree ∙ z)))))
              out h (no z) (no q) = let i : (term_in us e).stamp ≡ (term_in ts e).stamp = ap (λ (y : Term). y.stamp) (f.away e z q) in omega arith
          here e n (yes c) q (yes t) = absurd (n (ap (λ (y : ℕ). is_in y (up_rise a wa).list) c ∙ ((up_rise a wa).inside (top_in_lem ts g a p wa t)).0
              ∙ sym (ap (λ (y : ℕ). is_in y (up_rise b wb).list) c ∙ ((up_rise b wb).inside (top_in_lem ts g b p wb (sym tree ∙ t))).0)))
          here e n (no c) (yes q) (yes t) =
              let h = was x (λ z. n (ap (λ (y : ℕ). is_in y (up_rise a wa).list) q ∙ ((up_rise a wa).inside (top_in_lem ts g a p wa t)).1 ∙ ap not z
              ∙ sym (ap (λ (y : ℕ). is_in y (up_rise b wb).list) q ∙ ((up_rise b wb).inside (top_in_lem ts g b p wb (sym tree ∙ t))).1))) in
              let i : (term_in us e).stamp ≡ (term_in ts x).stamp = ap (λ (y : ℕ). (term_in us y).stamp) q ∙ ap (λ (y : Term). y.stamp) f.parent in
              omega arith
          here e n (no c) (no q) (yes t) =
              let h = was e (λ z. n ((up_rise a wa).other e c q ∙ z ∙ sym ((up_rise b wb).other e c q))) in
              let i : (term_in us e).stamp ≡ (term_in ts e).stamp = ap (λ (y : Term). y.stamp) (f.away e c q) in
              omega arith
