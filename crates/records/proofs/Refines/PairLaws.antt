-- The audit of congruence edges: each way through the tests of pairs and of their paths (src/classes.rt).
use mathlib.Core.Path.{◌≡◌, refl, sym, ap, ◌∙◌}
use mathlib.Core.Bool.{Bool, true, false, not, ◌&&◌, ◌||◌}
use mathlib.Core.List.{List, ◌∷◌}
use mathlib.Core.Logic.{⊎_elim}
use Prim.Native.Nat.{ℕ, suc, ◌+◌, ◌-◌, ◌≤◌, ◌<◌}
use native.Mathlib.Omega.{arith}
use lib.ListN.{length}
use lib.Dec.{eqb}
use Rattle.records.specs.declared.State.{State}
use Rattle.records.specs.Lists.{all, same_word, firsts, seconds, Every, and}
use Rattle.records.specs.Store.{Cell, cell_in, term, within, chain_by, chain_in, chain}
use Rattle.records.specs.View.{Lent, store_of, cell_at, cells_view, termed, chained, term_at}
use Rattle.records.specs.Rules.{falls_rule, pairs_of, congruence_rule, edge_rule, congruences_rule}
use Rattle.records.specs.Working.Leaves.{pair_words, pair_meets}
use Rattle.records.specs.Working.Audited.{Sized, Classed, Recorded, Part, TermPair, Congruable}
use Rattle.records.proofs.Lists.{both_left, both_right, either, every_map, every_both, every_firsts, firsts_every, seconds_every, word_is, and-stop, right-false, decide, table-length}
use Rattle.records.proofs.Views.{kind_at, first-at, value-at, other_at, next_at_lem}
use Rattle.records.proofs.Climbs.{view_term, view_forest, ready_up, within-term, term-within}
use Rattle.records.proofs.Refines.ClassLaws.{four-of}
use Rattle.records.proofs.Chains.{none-by, one-by}
use Rattle.records.proofs.Grown.{string-term}

-- THE PAIRS OF TWO CHAINS

-- the chains from x, y and z, at most k cells of each
abbrev pub linked : ℕ → List Cell → ℕ → ℕ → ℕ → Bool
linked k cs x y z = pair_words (chain_by k cs x) (chain_by k cs y) (chain_by k cs z)

module _ (cs : List Cell) (x y z : ℕ) where
  pub linked-zero : linked 0 cs x y z ≡ true
  unfolding chain_by pair_words firsts seconds same_word
  linked-zero = refl

  module _ (k : ℕ) where
    pub linked-end : within (length cs) x ≡ false → linked (suc k) cs x y z ≡ (not (within (length cs) y) && not (within (length cs) z))
    unfolding pair_words firsts seconds same_word
    linked-end e = decide (within (length cs) y)
        (λ p. rw (none-by cs (suc k) x e, one-by cs k y p, p))
        (λ p. decide (within (length cs) z)
        (λ q. rw (none-by cs (suc k) x e, none-by cs (suc k) y p, one-by cs k z q, p, q))
        (λ q. rw (none-by cs (suc k) x e, none-by cs (suc k) y p, none-by cs (suc k) z q, p, q)))

    pub linked-turn : within (length cs) x ≡ true → pair_meets cs x y z ≡ true → linked (suc k) cs x y z ≡ linked k cs (cell_in cs x).next (cell_in cs y).next (cell_in cs z).next
    unfolding pair_words firsts seconds same_word pair_meets
    linked-turn e h =
        let f = four-of _ _ _ _ h in
        rw (one-by cs k x e, one-by cs k y f.one, one-by cs k z f.two, f.three, f.four)

    pub linked-stop : within (length cs) x ≡ true → pair_meets cs x y z ≡ false → linked (suc k) cs x y z ≡ false
    unfolding pair_words firsts seconds same_word pair_meets
    linked-stop e h = decide (within (length cs) y)
        (λ p. decide (within (length cs) z)
        (λ q. rw (one-by cs k x e, one-by cs k y p, one-by cs k z q) (apart same_first same_second rest-first rest-second (rw (p, q) at h)))
        (λ q. rw (one-by cs k x e, one-by cs k y p, none-by cs (suc k) z q) (right-false (same_first && rest-first) false refl)))
        (λ p. rw (one-by cs k x e, none-by cs (suc k) y p))
      where
        same_first : Bool
        same_first = eqb (cell_in cs x).value (cell_in cs y).value

        same_second : Bool
        same_second = eqb (cell_in cs x).other (cell_in cs z).value

        rest-first : Bool
        rest-first = same_word (firsts (chain_by k cs (cell_in cs x).next)) (firsts (chain_by k cs (cell_in cs y).next))

        rest-second : Bool
        rest-second = same_word (seconds (chain_by k cs (cell_in cs x).next)) (firsts (chain_by k cs (cell_in cs z).next))

        apart : (a b v w : Bool) → (a && b) ≡ false → ((a && v) && (b && w)) ≡ false
        apart true b v w d = rw d (right-false v false refl)
        apart false b v w d = refl

module _ (l : List ℕ) (n : ℕ) where
  cells_count : length (cells_view l n) ≡ n
  cells_count = table-length (λ i. cell_at l (suc i)) n

  cell-within : (v : ℕ) → within (length (cells_view l n)) v ≡ within n v
  cell-within v = ap (λ m. within m v) cells_count

  -- the words that the code reads
  pub meets-words : (x y z : ℕ) → within n x ≡ true →
      (within n y && within n z && eqb (cell_at l x).value (cell_at l y).value && eqb (cell_at l x).other (cell_at l z).value) ≡ pair_meets (cells_view l n) x y z
  unfolding pair_meets
  meets-words x y z w = rw (cell-within y, cell-within z) (decide (within n y)
      (λ p. decide (within n z)
      (λ q. rw (p, q, ← value-at l n x _ w refl, ← value-at l n y _ p refl, ← other_at l n x _ w refl, ← value-at l n z _ q refl))
      (λ q. rw (p, q)))
      (λ p. rw p))

-- the loop: what is left of the chains from x, y and z is what was asked of those from p, a and b
pub record Linking (l : List ℕ) (n p a b x y z i : ℕ) : Type 0 where
  pub counted : i ≤ n
  pub left : linked (n - i) (cells_view l n) x y z ≡ linked n (cells_view l n) p a b

pub linking_begin : (l : List ℕ) (n p a b : ℕ) → Linking l n p a b p a b 0
linking_begin l n p a b = record { counted = omega arith; left = (let e : n - 0 ≡ n = omega arith in rw e) }

module _ (l : List ℕ) (n p a b x y z i : ℕ) (k : Linking l n p a b x y z i) where
  whole : linked n (cells_view l n) p a b ≡ pair_words (chain_in (cells_view l n) p) (chain_in (cells_view l n) a) (chain_in (cells_view l n) b)
  whole = rw (cells_count l n)

  at_left : i < n → linked (suc (n - (i + 1))) (cells_view l n) x y z ≡ linked n (cells_view l n) p a b
  at_left h = let e : n - i ≡ suc (n - (i + 1)) = omega arith in rw e at k.left

  pub linking_done : n ≤ i → true ≡ pair_words (chain_in (cells_view l n) p) (chain_in (cells_view l n) a) (chain_in (cells_view l n) b)
  linking_done h = let e : n - i ≡ 0 = omega arith in sym (linked-zero (cells_view l n) x y z) ∙ (rw e at k.left) ∙ whole

  pub linking_end : (c r : Bool) → i < n → c ≡ within n x → c ≡ false → r ≡ (not (within n y) && not (within n z)) → r ≡ pair_words (chain_in (cells_view l n) p) (chain_in (cells_view l n) a) (chain_in (cells_view l n) b)
  linking_end c r h e f g =
      g ∙ (rw (← cell-within l n y, ← cell-within l n z) (sym (linked-end (cells_view l n) x y z (n - (i + 1)) (cell-within l n x ∙ sym e ∙ f)))) ∙ at_left h ∙ whole

  module _ (c r : Bool) (h : i < n) (e : c ≡ within n x) (f : c ≡ true) (g : r ≡ pair_meets (cells_view l n) x y z) where
    pub linking_stop : r ≡ false → false ≡ pair_words (chain_in (cells_view l n) p) (chain_in (cells_view l n) a) (chain_in (cells_view l n) b)
    linking_stop d = sym (linked-stop (cells_view l n) x y z (n - (i + 1)) (cell-within l n x ∙ sym e ∙ f) (sym g ∙ d)) ∙ at_left h ∙ whole

    pub linking_turn : (u v w : ℕ) → r ≡ true → u ≡ (cell_at l x).next → v ≡ (cell_at l y).next → w ≡ (cell_at l z).next → Linking l n p a b u v w (i + 1)
    unfolding pair_meets
    linking_turn u v w d eu ev ew =
        let t = sym g ∙ d in
        let q = four-of _ _ _ _ t in
        let wx = sym e ∙ f in
        let wy = sym (cell-within l n y) ∙ q.one in
        let wz = sym (cell-within l n z) ∙ q.two in
        record {
          counted = omega arith;
          left = rw (next_at_lem l n x u wx eu, next_at_lem l n y v wy ev, next_at_lem l n z w wz ew) (sym (linked-turn (cells_view l n) x y z (n - (i + 1)) (cell-within l n x ∙ wx) t) ∙ at_left h);
        }

-- EVERY PAIR OF A CHAIN

-- the loop: what is left of the chain from x decides what was asked of the chain from p
pub record Chaining (P : ℕ × ℕ → Type 0) (q : ℕ × ℕ → Bool) (l : List ℕ) (n p x i : ℕ) : Type 0 where
  pub counted : i ≤ n
  pub good : Every P (chain_by (n - i) (cells_view l n) x)
  pub left : all q (chain_by (n - i) (cells_view l n) x) ≡ all q (chain_in (cells_view l n) p)

module _ (P : ℕ × ℕ → Type 0) (q : ℕ × ℕ → Bool) (l : List ℕ) (n p : ℕ) where
  pub chaining_begin : Every P (chain_in (cells_view l n) p) → Chaining P q l n p p 0
  chaining_begin h =
      let e : length (cells_view l n) ≡ n - 0 = cells_count l n ∙ omega arith in
      record { counted = omega arith; good = rw e at h; left = rw e }

  module _ (x i : ℕ) (k : Chaining P q l n p x i) where
    pub chaining_done : n ≤ i → true ≡ all q (chain_in (cells_view l n) p)
    unfolding chain_by all
    chaining_done h = let e : n - i ≡ 0 = omega arith in rw e at k.left

    pub chaining_end : (b : Bool) → b ≡ within n x → b ≡ false → true ≡ all q (chain_in (cells_view l n) p)
    unfolding all
    chaining_end b e h = rw (none-by (cells_view l n) (n - i) x (cell-within l n x ∙ sym e ∙ h)) at k.left

    module _ (v o : ℕ) (b : Bool) (h : i < n) (e : b ≡ within n x) (f : b ≡ true) (ev : v ≡ (cell_at l x).value) (eo : o ≡ (cell_at l x).other) where
      here : chain_by (n - i) (cells_view l n) x ≡ (v, o) ∷ chain_by (n - (i + 1)) (cells_view l n) (cell_in (cells_view l n) x).next
      here =
          let w = sym e ∙ f in
          let m : n - i ≡ suc (n - (i + 1)) = omega arith in
          rw (m, value-at l n x v w ev, other_at l n x o w eo) (one-by (cells_view l n) (n - (i + 1)) x (cell-within l n x ∙ w))

      pub chaining_head : P (v, o)
      chaining_head = go (rw here at k.good)
        where
          go : {m : List (ℕ × ℕ)} → Every P ((v, o) ∷ m) → P (v, o)
          go (and a r) = a

      pub chaining_stop : (r : Bool) → r ≡ q (v, o) → r ≡ false → false ≡ all q (chain_in (cells_view l n) p)
      unfolding all
      chaining_stop r g d = and-stop _ (all q (chain_by (n - (i + 1)) (cells_view l n) (cell_in (cells_view l n) x).next)) (sym g ∙ d) ∙ (rw here at k.left)

      pub chaining_turn : (r : Bool) (u : ℕ) → r ≡ q (v, o) → r ≡ true → u ≡ (cell_at l x).next → Chaining P q l n p u (i + 1)
      unfolding all
      chaining_turn r u g d eu =
          let w = sym e ∙ f in
          let t : (true && all q (chain_by (n - (i + 1)) (cells_view l n) (cell_in (cells_view l n) x).next)) ≡ all q (chain_in (cells_view l n) p)
          = rw (sym g ∙ d) at (rw here at k.left) in
          record { counted = omega arith; good = rw (next_at_lem l n x u w eu) (go (rw here at k.good)); left = rw (next_at_lem l n x u w eu) t }
        where
          go : {m : List (ℕ × ℕ)} → Every P ((v, o) ∷ m) → Every P m
          go (and a s) = s

-- A CONGRUENCE EDGE

-- pairs of the values of two chains of terms are pairs of terms
words-terms : (n : ℕ) (l p q : List (ℕ × ℕ)) → Every (λ x. within n x ≡ true) (firsts p) → Every (λ x. within n x ≡ true) (firsts q) → pair_words l p q ≡ true → Every (TermPair n) l
unfolding pair_words
words-terms n l p q hp hq e =
    let a = word_is (firsts l) (firsts p) (both_left _ _ e) in
    let b = word_is (seconds l) (firsts q) (both_right (same_word (firsts l) (firsts p)) _ e) in
    every_map (λ r h. record { one = h.0; other = h.1 }) (every_both (firsts_every l (rw a hp)) (seconds_every l (rw b hq)))

module _ (l e : List ℕ) (c : State) (t u : ℕ) (h : Congruable l e c) (w : within c.terms t ≡ true) (eu : u ≡ (term_at l t).forest_parent) where
  parent_is : u ≡ (term (chained l e c) t).forest_parent
  parent_is = view_forest l c.terms t u w eu

  pub parent-here : within c.terms u ≡ true
  parent-here = rw parent_is (h.pathed.tops.stays t w)

  abbrev pairs_at : Bool
  pairs_at =
      let p = chain (chained l e c) (term_at l t).label_value in
      let a = chain (chained l e c) (term_at l t).first in
      let b = chain (chained l e c) (term_at l u).first in
      pair_words p a b || pair_words p b a

  -- the words that the code reads
  pub congruence-words :
      (eqb (term_at l t).kind 3 && eqb (term_at l u).kind 3 && pairs_at && all (falls_rule (termed l c) (term_at l t).stamp) (chain (chained l e c) (term_at l t).label_value))
      ≡ congruence_rule (chained l e c) t
  unfolding congruence_rule falls_rule pairs_of pair_words
  congruence-words =
      let up = term (chained l e c) (term (chained l e c) t).forest_parent in
      let j = kind_at l c.terms t _ w refl in
      let p = ap (λ x. x.label_value) (sym (view_term l c.terms t w)) in
      let m = ap (λ x. x.stamp) (sym (view_term l c.terms t w)) in
      let a = first-at l c.terms t _ w refl in
      let k : (term_at l u).kind ≡ up.kind = rw (← parent_is) (kind_at l c.terms u _ parent-here refl) in
      let b : (term_at l u).first ≡ up.first = rw (← parent_is) (first-at l c.terms u _ parent-here refl) in
      rw (j, k, p, m, a, b) refl

  pub congruent_terms : (term_at l t).kind ≡ 3 → (term_at l u).kind ≡ 3 → pairs_at ≡ true → Every (TermPair c.terms) (chain (chained l e c) (term_at l t).label_value)
  congruent_terms j k d =
      let p = chain (chained l e c) (term_at l t).label_value in
      let x : Every (λ x. within c.terms x ≡ true) (firsts (chain (chained l e c) (term_at l t).first)) =
      rw (first-at l c.terms t _ w refl) (h.parted t (sym (kind_at l c.terms t _ w refl) ∙ j)) in
      let y : Every (λ x. within c.terms x ≡ true) (firsts (chain (chained l e c) (term_at l u).first)) =
      rw (first-at l c.terms u _ parent-here refl) (h.parted u (sym (kind_at l c.terms u _ parent-here refl) ∙ k)) in
      ⊎_elim (words-terms c.terms p _ _ x y) (words-terms c.terms p _ _ y x) (either _ _ d)

module _ (l e : List ℕ) (c : State) (t : ℕ) (w : within c.terms t ≡ true) where
  pub edge-words : (eqb (term_at l t).forest_parent t || not (eqb (term_at l t).label_kind 3) || congruence_rule (chained l e c) t) ≡ edge_rule (chained l e c) t
  edge-words = rw (view_term l c.terms t w) (go (eqb (term_at l t).forest_parent t) (eqb (term_at l t).label_kind 3) (congruence_rule (chained l e c) t))
    where
      go : (a b r : Bool) → (a || not b || r) ≡ (not (not a && b) || r)
      go true b r = refl
      go false b r = refl

-- the rule reads terms and cells alone
pub congruences-both : (m : Lent) (c : State) → congruences_rule (chained m.terms m.cells c) ≡ congruences_rule (store_of m c)
unfolding congruences_rule congruence_rule pairs_of falls_rule
congruences-both m c = refl

part-terms : (m : Lent) (c : State) (t : ℕ) (q : List (ℕ × ℕ)) → Every (Part (store_of m c) t) q → Every (λ x. within c.terms x ≡ true) (firsts q)
part-terms m c t q = every_firsts (λ p h. term-within m c p.0 (string-term (store_of m c) p.0 h.string))

-- what the audit of congruence edges may rely on, from refusals 1 to 3
pub congruable : (m : Lent) (c : State) → Sized m c → Recorded (store_of m c) → Classed (store_of m c) → Congruable m.terms m.cells c
congruable m c z r a = record {
  pathed = record { limited = z.term_limited; room = z.term_room; tops = ready_up m c a true; ends = λ t w. a.forest_ends t (within-term m c t w) };
  parted = λ t k. part-terms m c t _ (r.parts_good t k);
}
