-- Each way through the rules of records (src/rules.rt): what the code found makes the rule's test.
use mathlib.Core.Path.{◌≡◌, refl, sym, ap, ◌∙◌}
use mathlib.Core.Bool.{Bool, true, false, ◌&&◌}
use mathlib.Core.List.{List, ◌∷◌, []}
use Prim.Native.Nat.{ℕ, zero, suc, ◌+◌, ◌-◌, ◌*◌, ◌<◌, ◌≤◌}
use native.Mathlib.Omega.{arith}
use lib.ListN.{length, get_or}
use Rattle.std.proofs.lemmas.Bool.Decides.{nat_tests}
use lib.Dec.{leb}
use borrow.Author.Tests.{le-leb, leb-true}
use Rattle.records.specs.Lists.{all}
use Rattle.records.specs.Store.{Store, term_in, within, term, cell, chain, chain_by}
use Rattle.records.specs.View.{Lent, lent, store_of, cell_at, pair_at, terms_view, term_words, cell_words, sizes, term_limit, cell_limit, char_limit, reason_limit, key_limit}
use Rattle.records.specs.declared.State.{State}
use Rattle.records.specs.Working.Audited.{Sized}
use Rattle.records.specs.Rules.{text_rule, part_rule}
use Rattle.records.proofs.Lists.{right-false, right-true, table-length, both_left, both_right, both_true}
use Rattle.records.proofs.Views.{term-none, term-past, next_at_lem}

past : (n t : ℕ) → within n t ≡ false → 0 < t → n < t
unfolding within
past n t h z = grind (arith, nat_tests)

pub kind-none : (l : List ℕ) (n t : ℕ) → within n t ≡ false → 0 ≡ (term_in (terms_view l n) t).kind
kind-none l n zero h = rw (term-none l n) refl
kind-none l n (suc t) h = rw (term-past l n (suc t) (past n (suc t) h (omega arith))) refl

-- REASONS, KEYS, CELLS

-- a rule of the pair at a place
pub pair_test : (p : ℕ × ℕ → Bool) (l : List ℕ) (i x y : ℕ) (b : Bool) → b ≡ p (x, y) → x ≡ get_or l (2 * i) 0 → y ≡ get_or l (2 * i + 1) 0 → b ≡ p (pair_at l i)
pair_test p l i x y b e f g = rw (native.Mathlib.Nat.add-zero (2 * i)) (e ∙ ap (λ z. p (z, y)) f ∙ ap (λ z. p (get_or l (2 * i) 0, z)) g)

module _ (s : Store) where
  -- TERMS

  pub text_test : (t p n v w m : ℕ) → p ≡ (term s t).first → n ≡ (term s t).second → v ≡ p → w ≡ n → length s.chars ≡ m → leb (v + w) m ≡ text_rule s t
  unfolding text_rule
  text_test t p n v w m a b d e h = rw (d, e, a, b, sym h)

-- SIZES

module _ (m : Lent) (c : State) where
  abbrev terms_fit : Bool
  terms_fit = leb c.terms term_limit && leb (term_words c.terms) (length m.terms)

  abbrev cells_fit : Bool
  cells_fit = leb c.cells cell_limit && leb (cell_words c.cells) (length m.cells)

  abbrev chars_fit : Bool
  chars_fit = leb c.chars char_limit && leb c.chars (length m.chars)

  abbrev reasons_fit : Bool
  reasons_fit = leb c.reasons reason_limit && leb (2 * c.reasons) (length m.reasons)

  abbrev keys_fit : Bool
  keys_fit = leb c.keys key_limit && leb (2 * c.keys) (length m.keys)

  -- the test is the facts of refusal 1
  pub sized_of : sizes m c ≡ true → Sized m c
  unfolding sizes
  sized_of h =
      let f1 = both_left (terms_fit && cells_fit && chars_fit && reasons_fit) keys_fit h in
      let f2 = both_left (terms_fit && cells_fit && chars_fit) reasons_fit f1 in
      let f3 = both_left (terms_fit && cells_fit) chars_fit f2 in
      let t = both_left terms_fit cells_fit f3 in
      let e = both_right terms_fit cells_fit f3 in
      let h₁ = both_right (terms_fit && cells_fit) chars_fit f2 in
      let r = both_right (terms_fit && cells_fit && chars_fit) reasons_fit f1 in
      let k = both_right (terms_fit && cells_fit && chars_fit && reasons_fit) keys_fit h in
      record {
        term_limited = leb-true _ _ (both_left _ _ t);
        term_room = leb-true _ _ (both_right (leb c.terms term_limit) _ t);
        cell_limited = leb-true _ _ (both_left _ _ e);
        cell_room = leb-true _ _ (both_right (leb c.cells cell_limit) _ e);
        char_limited = leb-true _ _ (both_left _ _ h₁);
        char_room = leb-true _ _ (both_right (leb c.chars char_limit) _ h₁);
        reason_limited = leb-true _ _ (both_left _ _ r);
        reason_room = leb-true _ _ (both_right (leb c.reasons reason_limit) _ r);
        key_limited = leb-true _ _ (both_left _ _ k);
        key_room = leb-true _ _ (both_right (leb c.keys key_limit) _ k);
      }

  pub sizes_of : Sized m c → sizes m c ≡ true
  unfolding sizes
  sizes_of z =
      both_true _ _
      (both_true _ _
      (both_true _ _
      (both_true _ _
      (both_true _ _ (le-leb _ _ z.term_limited) (le-leb _ _ z.term_room))
      (both_true _ _ (le-leb _ _ z.cell_limited) (le-leb _ _ z.cell_room)))
      (both_true _ _ (le-leb _ _ z.char_limited) (le-leb _ _ z.char_room)))
      (both_true _ _ (le-leb _ _ z.reason_limited) (le-leb _ _ z.reason_room)))
      (both_true _ _ (le-leb _ _ z.key_limited) (le-leb _ _ z.key_room))

-- CHAINS

module _ (s : Store) (t : ℕ) where
  -- the test of a chain of which i cells were passed, and at most k are left from cell c on
  abbrev rest : ℕ → ℕ → ℕ → Bool
  rest k i c = leb 2 (i + length (chain_by k s.cells c)) && all (part_rule s t) (chain_by k s.cells c)

  abbrev pub whole : ℕ → Bool
  whole f = leb 2 (length (chain s f)) && all (part_rule s t) (chain s f)

  chain-none : (k c : ℕ) → within (length s.cells) c ≡ false → chain_by k s.cells c ≡ []
  unfolding chain_by
  chain-none zero c h = refl
  chain-none (suc k) c h = rw (chain_by, h)

  chain_more : (k c : ℕ) → within (length s.cells) c ≡ true → chain_by (suc k) s.cells c ≡ ((cell s c).value, (cell s c).other) ∷ chain_by k s.cells (cell s c).next
  unfolding chain_by
  chain_more k c h = rw (chain_by, h)

  rest-none : (k i c : ℕ) → chain_by k s.cells c ≡ [] → rest k i c ≡ leb 2 i
  unfolding all
  rest-none k i c z = rw (z, native.Mathlib.Nat.add-zero i) (right-true (leb 2 i) true refl)

  rest_over : (i c : ℕ) → rest 0 i c ≡ leb 2 i
  unfolding chain_by
  rest_over i c = rest-none 0 i c refl

  rest-stop : (k i c : ℕ) → within (length s.cells) c ≡ true → part_rule s t ((cell s c).value, (cell s c).other) ≡ false → rest (suc k) i c ≡ false
  unfolding all
  rest-stop k i c w h = rw (chain_more k c w, h) (right-false (leb 2 (i + suc (length (chain_by k s.cells (cell s c).next)))) false refl)

  rest-turn : (k i c : ℕ) → within (length s.cells) c ≡ true → part_rule s t ((cell s c).value, (cell s c).other) ≡ true → rest (suc k) i c ≡ rest k (i + 1) (cell s c).next
  unfolding all
  rest-turn k i c w h =
      let m : i + suc (length (chain_by k s.cells (cell s c).next)) ≡ (i + 1) + length (chain_by k s.cells (cell s c).next) = omega arith in
      rw (chain_more k c w, h, m)

-- the walk along the chain from f, of the words l of terms and e of cells
module _ (l e : List ℕ) (st : State) (t f : ℕ) where
  abbrev walked : Store
  walked = store_of (lent l e [] [] []) st

  cells-counted : length walked.cells ≡ st.cells
  cells-counted = table-length (λ j. cell_at e (suc j)) st.cells

  -- i cells were passed, and the walk stands at cell c
  pub record Walked (c i : ℕ) : Type 0 where
    pub inside : i ≤ st.cells
    pub left : rest walked t (st.cells - i) i c ≡ whole walked t f

  pub walk_start : Walked f 0
  walk_start =
      let e : st.cells - 0 ≡ length walked.cells = (let q = cells-counted in omega arith) in
      record { inside = omega arith; left = rw (e, native.Mathlib.Nat.zero-add (length (chain walked f))) }

  module _ (c i : ℕ) (a : Walked c i) where
    pub walk_over : st.cells ≤ i → leb 2 i ≡ whole walked t f
    walk_over h = let z : st.cells - i ≡ 0 = omega arith in sym (rest_over walked t i c) ∙ (rw z at a.left)

    module _ (x : Bool) (ex : x ≡ within st.cells c) where
      pub walk_end : x ≡ false → leb 2 i ≡ whole walked t f
      walk_end h =
          let z : within (length walked.cells) c ≡ false = rw cells-counted (sym ex ∙ h) in
          sym (rest-none walked t (st.cells - i) i c (chain-none walked t (st.cells - i) c z)) ∙ a.left

      module _ (h : x ≡ true) (j : i < st.cells) (y : Bool) (ey : y ≡ part_rule walked t ((cell walked c).value, (cell walked c).other)) where
        here : within (length walked.cells) c ≡ true
        here = rw cells-counted (sym ex ∙ h)

        more : st.cells - i ≡ suc (st.cells - (i + 1))
        more = omega arith

        pub walk_stop : y ≡ false → false ≡ whole walked t f
        walk_stop z = sym (rest-stop walked t (st.cells - (i + 1)) i c here (sym ey ∙ z)) ∙ (rw more at a.left)

        pub walk_turn : y ≡ true → (d : ℕ) → d ≡ (cell_at e c).next → Walked d (i + 1)
        walk_turn z d q =
            let n = next_at_lem e st.cells c d (sym ex ∙ h) q in
            record {
              inside = omega arith;
              left = rw n (sym (rest-turn walked t (st.cells - (i + 1)) i c here (sym ey ∙ z)) ∙ (rw more at a.left));
            }
