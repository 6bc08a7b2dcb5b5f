-- What a chain's `all` and `any` answer of each place of a list, as the tests of the whole list.
use mathlib.Core.Path.{◌≡◌, refl}
use mathlib.Core.Bool.{Bool, true}
use mathlib.Core.List.{List, [], ◌∷◌}
use mathlib.Core.Logic.{⊎_elim}
use Prim.Native.Nat.{ℕ, zero, suc, ◌<◌}
use native.Mathlib.Omega.{arith}
use lib.ListN.{length, get_or}
use Rattle.std.specs.Prelude.{◌↔◌, IsTrue, EachIndex}
use Rattle.std.specs.List.{SomeIndex}
use Rattle.records.specs.Lists.{all, any}
use Rattle.records.proofs.Lists.{both_left, both_right, both_true, or_left, or_right, either, clash, same_test}

module _ (p : ℕ → Bool) where
  each-all : (l : List ℕ) → EachIndex l (λ k. p (get_or l k 0) ≡ true) → all p l ≡ true
  unfolding all
  each-all [] h = refl
  each-all (x ∷ l) h = both_true _ _ (h 0 (omega arith)) (each-all l (λ k i. h (suc k) (omega arith)))

  all-each : (l : List ℕ) → all p l ≡ true → EachIndex l (λ k. p (get_or l k 0) ≡ true)
  unfolding all
  all-each [] e k i = absurd (omega arith)
  all-each (x ∷ l) e zero i = both_left (p x) _ e
  all-each (x ∷ l) e (suc k) i = all-each l (both_right (p x) _ e) k (omega arith)

  pub all-from_chain : (l : List ℕ) (b : Bool) → IsTrue b ↔ EachIndex l (λ k. p (get_or l k 0) ≡ true) → b ≡ all p l
  all-from_chain l b h = same_test b (all p l) (λ e. each-all l (h.0 e)) (λ e. h.1 (all-each l e))

  some-any : (l : List ℕ) (k : ℕ) → k < length l → p (get_or l k 0) ≡ true → any p l ≡ true
  unfolding any
  some-any [] k i e = absurd (omega arith)
  some-any (x ∷ l) zero i e = or_left (p x) _ e
  some-any (x ∷ l) (suc k) i e = or_right (p x) _ (some-any l k (omega arith) e)

  any-some : (l : List ℕ) → any p l ≡ true → SomeIndex l (λ k. p (get_or l k 0) ≡ true)
  unfolding any
  any-some [] e = clash e refl
  any-some (x ∷ l) e =
      ⊎_elim (λ h. (0, omega arith, h)) (λ h. let w = any-some l h in (suc w.0, (let i = w.1 in omega arith), w.2)) (either (p x) _ e)

  pub any-from_chain : (l : List ℕ) (b : Bool) → IsTrue b ↔ SomeIndex l (λ k. p (get_or l k 0) ≡ true) → b ≡ any p l
  any-from_chain l b h = same_test b (any p l) (λ e. let w = h.0 e in some-any l w.0 w.1 w.2) (λ e. h.1 (any-some l e))
