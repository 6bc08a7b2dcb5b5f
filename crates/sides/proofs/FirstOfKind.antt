-- The place of the first atom of a list that a test holds of, and what it says of all of them.
use Rattle.std.specs.Prelude.{if◌then◌else◌, cond, position, unwrap_or, Option, Some, None}
use Rattle.std.specs.List.{position_or_len}
use mathlib.Core.Path.{◌≡◌, refl, sym, ap, ◌∙◌}
use mathlib.Core.Bool.{Bool, true, false, not, ◌&&◌, ◌||◌}
use mathlib.Core.List.{List, [], ◌∷◌}
use Prim.Native.Nat.{ℕ, suc, ◌+◌, ◌<◌}
use native.Mathlib.Omega.{arith}
use lib.ListN.{length, get_or, take, drop, take-append-drop, drop_of_length-le}
use lib.Dec.{eqb, ltb}
use borrow.Author.Tests.{not-true, eq-eqb, ne_eqb, ltb-true, ltb-false}
use Rattle.records.specs.Lists.{all, any}
use Rattle.records.specs.Store.{Store, kind}
use Rattle.records.proofs.Lists.{decide, or_left, any_append, drop_head}
use Rattle.sides.specs.Wordeq.{fixed}
use Rattle.sides.specs.Working.Sides.{of_kind, First}
use Rattle.sides.specs.Working.Spans.{FirstVariable}

-- THE PLACE

-- the first place that passes, or the list's length
first-place : (p : ℕ → Bool) (l : List ℕ) → First p l (position_or_len p l)
unfolding any
first-place p [] = record { within = omega arith; before = refl; at = λ z. absurd (omega arith) }
first-place p (a ∷ l) = go (p a) refl (first-place p l)
  where
    go : (b : Bool) → p a ≡ b → First p l (position_or_len p l) → First p (a ∷ l) (cond (not b) (1 + position_or_len p l) 0)
    go true e ih = record { within = omega arith; before = refl; at = λ z. e }
    go false e ih =
        let w = ih.within in
        let z : 1 + position_or_len p l ≡ suc (position_or_len p l) = omega arith in
        rw z (record { within = omega arith; before = ap (λ (x : Bool). x || any p (take (position_or_len p l) l)) e ∙ ih.before; at = λ y. ih.at (omega arith) })

pub first-found : (p : ℕ → Bool) (l : List ℕ) (o : Option ℕ) (i : ℕ) → o ≡ position p l → i ≡ unwrap_or o (length l) → First p l i
first-found p l o i e f = rw (f, e) (go (ltb (position_or_len p l) (length l)) refl)
  where
    go : (b : Bool) → ltb (position_or_len p l) (length l) ≡ b → First p l (unwrap_or (cond b (Some (position_or_len p l)) None) (length l))
    go true t = first-place p l
    go false t =
        let x = first-place p l in
        let w = x.within in
        let k : position_or_len p l ≡ length l = (let z = ltb-false (position_or_len p l) (length l) t in omega arith) in
        rw (← k) x

-- WHAT IT SAYS

module _ (p : ℕ → Bool) (l : List ℕ) (i : ℕ) (f : First p l i) where
  opened : any p l ≡ any p (drop i l)
  opened = ap (any p) (sym (take-append-drop i l)) ∙ any_append p (take i l) (drop i l) ∙ ap (λ (y : Bool). y || any p (drop i l)) f.before

  first_any : ltb i (length l) ≡ any p l
  unfolding any
  first_any = decide (ltb i (length l)) here there
    where
      here : ltb i (length l) ≡ true → ltb i (length l) ≡ any p l
      here t = t ∙ sym (opened ∙ rw (drop_head l i (ltb-true i (length l) t)) (or_left _ _ (f.at (ltb-true i (length l) t))))

      there : ltb i (length l) ≡ false → ltb i (length l) ≡ any p l
      there t = t ∙ sym (opened ∙ rw (drop_of_length-le l (ltb-false i (length l) t)))

-- a test and its opposite
module _ (p q : ℕ → Bool) (f : (a : ℕ) → p a ≡ not (q a)) where
  all_any : (l : List ℕ) → all q l ≡ not (any p l)
  unfolding all any
  all_any [] = refl
  all_any (a ∷ l) = ap (λ (x : Bool). q a && x) (all_any l) ∙ go (q a) (any p l) ∙ ap (λ (x : Bool). not (x || any p l)) (sym (f a))
    where
      go : (x y : Bool) → (x && not y) ≡ not (not x || y)
      go true y = refl
      go false y = refl

  first-all : (l : List ℕ) (i : ℕ) → First p l i → eqb i (length l) ≡ all q l
  first-all l i x = at_end ∙ ap not (first_any p l i x) ∙ sym (all_any l)
    where
      apart : {m n : ℕ} → m < n → m ≡ n → ⊥
      apart b e = absurd (omega arith)

      at_end : eqb i (length l) ≡ not (ltb i (length l))
      at_end =
          decide (ltb i (length l)) (λ t. ne_eqb i (length l) (apart (ltb-true i (length l) t)) ∙ sym (ap not t))
          (λ t. eq-eqb i (length l) (let b = ltb-false i (length l) t in let w = x.within in omega arith) ∙ sym (ap not t))

-- a test that comes to the same
pub any_same : (p q : ℕ → Bool) → ((a : ℕ) → p a ≡ q a) → (l : List ℕ) → any p l ≡ any q l
unfolding any
any_same p q e [] = refl
any_same p q e (a ∷ l) = rw (e a, any_same p q e l)

-- KINDS

module _ (s : Store) (k : ℕ) where
  that_kind : (a : ℕ) → of_kind s k true a ≡ eqb (kind s a) k
  unfolding of_kind
  that_kind a = go (eqb (kind s a) k)
    where
      go : (x : Bool) → (if x then true else false) ≡ x
      go true = refl
      go false = refl

  other-kind : (a : ℕ) → of_kind s k false a ≡ not (eqb (kind s a) k)
  unfolding of_kind
  other-kind a = go (eqb (kind s a) k)
    where
      go : (x : Bool) → (if x then false else true) ≡ not x
      go true = refl
      go false = refl

  pub all-kind : (l : List ℕ) (i : ℕ) → First (of_kind s k false) l i → eqb i (length l) ≡ all (λ a. eqb (kind s a) k) l
  all-kind = first-all (of_kind s k false) (λ a. eqb (kind s a) k) other-kind

  pub any-kind : (l : List ℕ) (i : ℕ) → First (of_kind s k true) l i → ltb i (length l) ≡ any (λ a. eqb (kind s a) k) l
  any-kind l i f = first_any (of_kind s k true) l i f ∙ any_same (of_kind s k true) (λ a. eqb (kind s a) k) that_kind l

pub fixed-kind : (s : Store) (l : List ℕ) (i : ℕ) → First (of_kind s 1 false) l i → eqb i (length l) ≡ fixed s l
unfolding fixed
fixed-kind s l i f = all-kind s 1 l i f

pub first-variable : (s : Store) (l : List ℕ) (i : ℕ) → First (of_kind s 1 false) l i → FirstVariable s l i
unfolding fixed
first-variable s l i f = record {
  within = f.within;
  before = all_any (of_kind s 1 false) (λ a. eqb (kind s a) 1) (other-kind s 1) (take i l) ∙ ap not f.before;
  at = λ b. not-true (eqb (kind s (get_or l i 0)) 1) (sym (other-kind s 1 (get_or l i 0)) ∙ f.at b);
}
