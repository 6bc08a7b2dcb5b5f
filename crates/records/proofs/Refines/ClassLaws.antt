-- The audit of classes: tests of one term at a time say what the rules of two terms say.
use Rattle.std.specs.Prelude.{if◌then◌else◌}
use mathlib.Core.Path.{◌≡◌, refl, sym, ap, ◌∙◌}
use mathlib.Core.Bool.{Bool, true, false, not, ◌&&◌, ◌||◌}
use mathlib.Core.List.{List}
use mathlib.Core.Logic.{⊎_elim}
use Prim.Native.Nat.{ℕ, zero, suc}
use lib.ListN.{length}
use lib.Dec.{eqb}
use borrow.Author.Tests.{eqb-true, eqb-false, eq-eqb, ne_eqb}
use Rattle.records.specs.declared.State.{State}
use Rattle.records.specs.Store.{Store, term, count, is_term, is_string, within, climb, class_up, forest_up, root, top, same_class, same_tree}
use Rattle.records.specs.Rules.{each_term, parents_rule, ends_rule, alike_rule, alone_rule, label_rule, classes_rule}
use Rattle.records.specs.Working.Leaves.{parent_of, up_in, alike_at, alone_at, class_test}
use Rattle.records.specs.View.{Lent, store_of, terms_view, termed, term_at}
use Rattle.records.specs.Working.Audited.{Closed, Rooted}
use Rattle.records.proofs.Lists.{both_left, both_right, both_true, either, or_left, or_right, decide, clash, same_test}
use Rattle.records.proofs.Climbs.{climb-up, climb-stays, climb-within, rule_at, rule_all, parents_up, view_count, view_up}

-- what a term's tests say of its roots
module _ (s : Store) (t : ℕ) where
  pub root_ends : ends_rule s t ≡ true → (term s (root s t)).class_parent ≡ root s t
  unfolding ends_rule
  root_ends h = eqb-true _ _ (both_left _ _ h)

  pub top-ends : ends_rule s t ≡ true → (term s (top s t)).forest_parent ≡ top s t
  unfolding ends_rule
  top-ends h = eqb-true _ _ (both_right (eqb (term s (root s t)).class_parent (root s t)) _ h)

  pub root_alike : alike_at s t ≡ true → root s (top s t) ≡ root s t
  unfolding alike_at
  root_alike h = eqb-true _ _ (both_left _ _ h)

  pub top-alike : alike_at s t ≡ true → top s (root s t) ≡ top s t
  unfolding alike_at
  top-alike h = eqb-true _ _ (both_right (eqb (root s (top s t)) (root s t)) _ h)

module _ (s : Store) (ups : (forest : Bool) → Closed (up_in forest s.terms) (count s)) (ends : (t : ℕ) → is_term s t ≡ true → ends_rule s t ≡ true) where
  -- where the parents of t in the forest or in the class end
  abbrev end : Bool → ℕ → ℕ
  end forest t = climb (up_in forest s.terms) (count s) t

  end-term : (forest : Bool) (t : ℕ) → is_term s t ≡ true → is_term s (end forest t) ≡ true
  end-term forest t w = climb-within (up_in forest s.terms) (count s) (count s) t (ups forest) w

  end_stays : (forest : Bool) (t : ℕ) → is_term s t ≡ true → up_in forest s.terms (end forest t) ≡ end forest t
  end_stays true t w = top-ends s t (ends t w)
  end_stays false t w = root_ends s t (ends t w)

  end-end : (forest : Bool) (t : ℕ) → is_term s t ≡ true → end forest (end forest t) ≡ end forest t
  end-end forest t w = climb-stays (up_in forest s.terms) (count s) (end forest t) (end_stays forest t w)

  -- THE DIVISION

  pub alike_fact : (t u : ℕ) → alike_rule s t u ≡ true → same_class s t u ≡ same_tree s t u
  unfolding alike_rule
  alike_fact t u h = go (same_class s t u) (same_tree s t u) h
    where
      go : (a b : Bool) → ◌≡◌ {A = Bool} (if a then b else not b) true → a ≡ b
      go true b e = sym e
      go false true e = e
      go false false e = refl

  fact_alike : (t u : ℕ) → same_class s t u ≡ same_tree s t u → alike_rule s t u ≡ true
  unfolding alike_rule
  fact_alike t u h = go (same_class s t u) (same_tree s t u) h
    where
      go : (a b : Bool) → a ≡ b → ◌≡◌ {A = Bool} (if a then b else not b) true
      go true b e = sym e
      go false true e = e
      go false false e = refl

  alike_one : ((t u : ℕ) → is_term s t ≡ true → is_term s u ≡ true → alike_rule s t u ≡ true) → (t : ℕ) → is_term s t ≡ true → alike_at s t ≡ true
  unfolding alike_at
  alike_one f t w =
      let a = alike_fact (top s t) t (f (top s t) t (end-term true t w) w) in
      let b = alike_fact (root s t) t (f (root s t) t (end-term false t w) w) in
      both_true _ _ (a ∙ eq-eqb _ _ (end-end true t w)) (sym b ∙ eq-eqb _ _ (end-end false t w))

  module _ (f : (t : ℕ) → is_term s t ≡ true → alike_at s t ≡ true) where
    alike-two : (t u : ℕ) → is_term s t ≡ true → is_term s u ≡ true → alike_rule s t u ≡ true
    alike-two t u w v = fact_alike t u (same_test _ _
        (λ e. eq-eqb _ _ (sym (top-alike s t (f t w)) ∙ ap (top s) (eqb-true _ _ e) ∙ top-alike s u (f u v)))
        (λ e. eq-eqb _ _ (sym (root_alike s t (f t w)) ∙ ap (root s) (eqb-true _ _ e) ∙ root_alike s u (f u v))))

  -- ALONE

  pub alone_fact : (t u : ℕ) → alone_rule s t u ≡ true → (t ≡ u → ⊥) → root s t ≡ root s u → is_string s t ≡ true
  unfolding alone_rule
  alone_fact t u h d e = decide (is_string s t) (λ k. k)
      (λ k. let f : alone_rule s t u ≡ false = rw (k, ne_eqb t u d, eq-eqb (root s t) (root s u) e) in clash h f)

  alone-one : ((t u : ℕ) → is_term s t ≡ true → is_term s u ≡ true → alone_rule s t u ≡ true) → (t : ℕ) → is_term s t ≡ true → alone_at s t ≡ true
  unfolding alone_at
  alone-one f t w = decide (eqb (term s t).class_parent t) (λ h. or_left _ _ h) (λ h.
      let p = (term s t).class_parent in
      let v = (ups false).stays t w in
      let d = eqb-false p t h in
      let e = climb-up (class_up s.terms) (count s) t (end_stays false t w) in
      or_right (eqb (term s t).class_parent t) _ (both_true _ _ (alone_fact t p (f t p w v) (λ z. d (sym z)) (sym e)) (alone_fact p t (f p t v w) d e)))

  module _ (f : (t : ℕ) → is_term s t ≡ true → alone_at s t ≡ true) where
    -- a term that is no string term is its own class parent, and a step up to one is no step
    alone-self : (t : ℕ) → is_term s t ≡ true → is_string s t ≡ false → (term s t).class_parent ≡ t
    unfolding alone_at
    alone-self t w n = ⊎_elim (λ e. eqb-true _ _ e) (λ e. clash (both_left _ _ e) n) (either _ _ (f t w))

    alone-below : (t : ℕ) → is_term s t ≡ true → is_string s (term s t).class_parent ≡ false → (term s t).class_parent ≡ t
    unfolding alone_at
    alone-below t w n = ⊎_elim (λ e. eqb-true _ _ e) (λ e. clash (both_right (is_string s t) _ e) n) (either _ _ (f t w))

    alone-climb : (k u : ℕ) → is_term s u ≡ true → is_string s (climb (class_up s.terms) k u) ≡ false → climb (class_up s.terms) k u ≡ u
    unfolding climb
    alone-climb zero u w n = refl
    alone-climb (suc k) u w n =
        let h = alone-climb k (term s u).class_parent ((ups false).stays u w) n in
        h ∙ alone-below u w (rw h at n)

    alone-two : (t u : ℕ) → is_term s t ≡ true → is_term s u ≡ true → alone_rule s t u ≡ true
    unfolding alone_rule
    alone-two t u w v = decide (is_string s t) (λ k. rw k) (λ k. decide (same_class s t u)
        (λ e.
        let r : root s t ≡ root s u = eqb-true (root s t) (root s u) e in
        let o : root s t ≡ t = climb-stays (class_up s.terms) (count s) t (alone-self t w k) in
        let i : root s u ≡ u = alone-climb (count s) u v (let q : root s u ≡ t = sym r ∙ o in rw q k) in
        or_left (is_string s t || eqb t u) _ (or_right (is_string s t) _ (eq-eqb t u (sym o ∙ r ∙ i))))
        (λ e. or_right (is_string s t || eqb t u) _ (ap not e)))

-- THE RULE

-- four tests that all pass
pub record Four (a b c d : Bool) : Type 0 where
  pub one : a ≡ true
  pub two : b ≡ true
  pub three : c ≡ true
  pub four : d ≡ true

pub four-of : (a b c d : Bool) → (a && b && c && d) ≡ true → Four a b c d
four-of a b c d h =
    let p = both_left (a && b && c) d h in
    let q = both_left (a && b) c p in
    record { one = both_left a b q; two = both_right a b q; three = both_right (a && b) c p; four = both_right (a && b && c) d h }

pub of_four : (a b c d : Bool) → Four a b c d → (a && b && c && d) ≡ true
of_four a b c d f = both_true _ _ (both_true _ _ (both_true _ _ f.one f.two) f.three) f.four

module _ (s : Store) (h : each_term s (parents_rule s) ≡ true) where
  test_at : each_term s (class_test s) ≡ true → (t : ℕ) → is_term s t ≡ true → Four (ends_rule s t) (alike_at s t) (label_rule s t) (alone_at s t)
  unfolding class_test
  test_at p t w = four-of _ _ _ _ (rule_at s (class_test s) p t w)

  tests_rule : each_term s (class_test s) ≡ true → classes_rule s ≡ true
  unfolding classes_rule
  tests_rule p =
      let e : (t : ℕ) → is_term s t ≡ true → ends_rule s t ≡ true = λ t w. (test_at p t w).one in
      both_true _ _ (both_true _ _ (both_true _ _ (both_true _ _ h (rule_all s (ends_rule s) e))
      (rule_all s (λ t. each_term s (alike_rule s t)) (λ t w. rule_all s (alike_rule s t) (λ u v. alike-two s (parents_up s h) e (λ x y. (test_at p x y).two) t u w v))))
      (rule_all s (label_rule s) (λ t w. (test_at p t w).three)))
      (rule_all s (λ t. each_term s (alone_rule s t)) (λ t w. rule_all s (alone_rule s t) (λ u v. alone-two s (parents_up s h) e (λ x y. (test_at p x y).four) t u w v)))

  rule_tests : classes_rule s ≡ true → each_term s (class_test s) ≡ true
  unfolding classes_rule class_test
  rule_tests p =
      let f = four-of (each_term s (parents_rule s) && each_term s (ends_rule s)) (each_term s (λ t. each_term s (alike_rule s t))) (each_term s (label_rule s)) (each_term s (λ t. each_term s (alone_rule s t))) p in
      let e : (t : ℕ) → is_term s t ≡ true → ends_rule s t ≡ true = rule_at s (ends_rule s) (both_right (each_term s (parents_rule s)) _ f.one) in
      rule_all s (class_test s) (λ t w. of_four _ _ _ _ (record {
        one = e t w;
        two = alike_one s (parents_up s h) e (λ x y v z. rule_at s (alike_rule s x) (rule_at s (λ t. each_term s (alike_rule s t)) f.two x v) y z) t w;
        three = rule_at s (label_rule s) f.three t w;
        four = alone-one s (parents_up s h) e (λ x y v z. rule_at s (alone_rule s x) (rule_at s (λ t. each_term s (alone_rule s t)) f.four x v) y z) t w;
      }))

  pub classes-is : each_term s (class_test s) ≡ classes_rule s
  classes-is = same_test _ _ tests_rule rule_tests

pub classes-not : (s : Store) → each_term s (parents_rule s) ≡ false → false ≡ classes_rule s
unfolding classes_rule
classes-not s h = rw h

-- EACH WAY THROUGH THE CODE

-- the store as a test that reads the terms alone sees it
pub seen-term : (l : List ℕ) (c : State) (t : ℕ) → is_term (termed l c) t ≡ within c.terms t
seen-term l c t = ap (λ n. within n t) (view_count l c.terms)

module _ (l : List ℕ) (c : State) (t : ℕ) (w : within c.terms t ≡ true) where
  -- a parent that was read names a term where the number read does
  pub parent-term : (forest : Bool) (p : ℕ) → p ≡ parent_of forest (term_at l t) → is_term (termed l c) (up_in forest (terms_view l c.terms) t) ≡ within c.terms p
  parent-term forest p e = ap (is_term (termed l c)) (sym (view_up l c.terms forest t p w e)) ∙ seen-term l c p

-- roots at hand
module _ (l : List ℕ) (c : State) (t r q : ℕ) (h : Rooted (termed l c) c.terms t r q) where
  pub root-here : within c.terms r ≡ true
  root-here = rw h.root_is (climb-within (class_up (terms_view l c.terms)) c.terms (length (terms_view l c.terms)) t h.roots h.here)

  pub top-here : within c.terms q ≡ true
  top-here = rw h.top_is (climb-within (forest_up (terms_view l c.terms)) c.terms (length (terms_view l c.terms)) t h.tops h.here)

  pub alike_is : (p u : ℕ) → p ≡ root (termed l c) q → u ≡ top (termed l c) r → (eqb p r && eqb u q) ≡ alike_at (termed l c) t
  unfolding alike_at
  alike_is p u e f = rw (← h.root_is, ← h.top_is, ← e, ← f)

-- what the parents' rule gives the climbs
module _ (l : List ℕ) (c : State) (h : each_term (termed l c) (parents_rule (termed l c)) ≡ true) where
  pub seen_up : (forest : Bool) → Closed (up_in forest (terms_view l c.terms)) c.terms
  seen_up forest = rw (view_count l c.terms) at (parents_up (termed l c) h forest)

  pub seen-rooted : (t r q : ℕ) → within c.terms t ≡ true → r ≡ root (termed l c) t → q ≡ top (termed l c) t → Rooted (termed l c) c.terms t r q
  seen-rooted t r q w e f = record { here = w; roots = seen_up false; tops = seen_up true; root_is = e; top_is = f }

-- the rule reads the terms alone
pub classes-seen : (m : Lent) (c : State) → classes_rule (termed m.terms c) ≡ classes_rule (store_of m c)
unfolding classes_rule parents_rule ends_rule alike_rule label_rule alone_rule
classes-seen m c = refl
