-- The residual lists and the sides of step 5, as a crate above reads them: the variables of a side, and what the terms and characters
-- alone say of both.
use Rattle.std.specs.Prelude.{if◌then◌else◌}
use mathlib.Core.Path.{◌≡◌, refl, sym, ap, ◌∙◌}
use mathlib.Core.Bool.{Bool, true, false, not, ◌&&◌}
use mathlib.Core.List.{List, [], ◌∷◌}
use Prim.Native.Nat.{ℕ, zero, suc, ◌≤◌, ◌<◌}
use native.Mathlib.Omega.{arith}
use lib.ListN.{length, get_or, take, drop}
use lib.Seq.{take_all}
use Rattle.records.specs.declared.State.{State}
use Rattle.records.specs.Lists.{all, keep}
use Rattle.records.specs.Store.{Store, is_constant}
use Rattle.records.specs.View.{Lent, lent, store_of, read_in, termed}
use Rattle.records.proofs.Lists.{both_left, both_right, decide}
use Rattle.sides.specs.Wordeq.{same, fixed, letters, variables, rest}
use Rattle.sides.specs.Working.Sides.{Texts}
use Rattle.sides.specs.Working.Stripping.{Readable}
use Rattle.sides.specs.Working.Spans.{FirstVariable, agrees}
use Rattle.sides.proofs.SideReady.{ready-read_in, length_whole}
use Rattle.sides.proofs.Refines.Stripping.{same_read, rest-by}

-- THE VARIABLES OF A SIDE

module _ (s : Store) where
  pub fixed-variables : (l : List ℕ) → fixed s l ≡ true → variables s l ≡ []
  unfolding fixed all keep
  fixed-variables [] e = refl
  fixed-variables (a ∷ l) e =
      let p = both_left (is_constant s a) (all (is_constant s) l) e in
      let q = fixed-variables l (both_right (is_constant s a) (all (is_constant s) l) e) in
      rw p q

  variables-of : (r : List ℕ) (i : ℕ) → fixed s (take i r) ≡ true → i < length r → is_constant s (get_or r i 0) ≡ false → variables s r ≡ get_or r i 0 ∷ variables s (drop (suc i) r)
  unfolding fixed all keep
  variables-of [] i h p f = absurd (omega arith)
  variables-of (a ∷ r) zero h p f = let q : is_constant s a ≡ false = f in rw q
  variables-of (a ∷ r) (suc i) h p f =
      let q = both_left (is_constant s a) (all (is_constant s) (take i r)) h in
      rw q (variables-of r i (both_right (is_constant s a) (all (is_constant s) (take i r)) h) (omega arith) f)

  module _ (r : List ℕ) (i : ℕ) (x : FirstVariable s r i) where
    pub variables-from : i < length r → variables s r ≡ get_or r i 0 ∷ variables s (drop (suc i) r)
    variables-from b = variables-of r i x.before b (x.at b)

    pub variables-none : length r ≤ i → variables s r ≡ []
    variables-none b = fixed-variables r (ap (fixed s) (sym (take_all i r b)) ∙ x.before)

pub variables-short : (s : Store) (l : List ℕ) → length (variables s l) ≤ length l
unfolding keep
variables-short s [] = omega arith
variables-short s (a ∷ l) = go (is_constant s a) (variables-short s l)
  where
    go : (b : Bool) → length (variables s l) ≤ length l → length (if not b then (a ∷ variables s l) else variables s l) ≤ suc (length l)
    go true e = omega arith
    go false e = omega arith

pub agree-variables : (s : Store) (v : ℕ) (l : List ℕ) → all (agrees s v) l ≡ all (λ u. same s u v) (variables s l)
unfolding all keep agrees
agree-variables s v [] = refl
agree-variables s v (a ∷ l) =
    decide (is_constant s a) (λ z. rw z (agree-variables s v l)) (λ z. rw z (ap (λ (x : Bool). same s a v && x) (agree-variables s v l)))

-- BY THE TERMS AND CHARACTERS ALONE

-- what is left of two lists
pub rest_read : (m : Lent) (c : State) (l r : List ℕ) → rest (store_of m c) l r ≡ rest (read_in m.terms m.chars c) l r
rest_read m c l r = rest-by (store_of m c) (read_in m.terms m.chars c) (same_read m.terms m.cells m.chars m.keys m.reasons c) l r

module _ (t h : List ℕ) (c : State) (x : Readable t h c) where
  pub texts-read : Texts t c
  texts-read = (ready-read_in (lent t x.cells h x.reasons x.keys) c x.ready).texts

  -- how many letters a side has
  pub letters-read : (l : List ℕ) → length (letters (termed t c) l) ≡ length (letters (read_in t h c) l)
  letters-read l = length_whole (lent t [] h [] []) c texts-read l
