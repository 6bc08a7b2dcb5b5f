-- Each way through `place_of` and `is_at`.
use Rattle.std.specs.Prelude.{Some}
use mathlib.Core.Path.{◌≡◌, sym, ◌∙◌}
use mathlib.Core.Bool.{Bool, true, false}
use mathlib.Core.List.{List}
use Prim.Native.Nat.{ℕ, ◌+◌, ◌-◌, ◌≤◌, ◌<◌}
use native.Mathlib.Omega.{arith}
use Rattle.records.specs.View.{pair_at, pairs_view}
use Rattle.records.specs.Make.{same_pair, is_listed}
use Rattle.records.proofs.Lists.{any-zero, any-turn, any-stays, any-stop}
use Rattle.engine.specs.Working.Listing.{Placed, Stands}

-- the first i lack the pair
pub record Lacks (l : List ℕ) (i a b : ℕ) : Type 0 where
  pub is : is_listed (a, b) (pairs_view l i) ≡ false

module _ (l : List ℕ) (n a b : ℕ) where
  pub lacks-none : Lacks l 0 a b
  unfolding is_listed
  lacks-none = record { is = any-zero (same_pair (a, b)) (pair_at l) }

  pub lacks-turn : (i : ℕ) (x : Bool) → x ≡ same_pair (a, b) (pair_at l i) → x ≡ false → Lacks l i a b → Lacks l (i + 1) a b
  unfolding is_listed
  lacks-turn i x e t h = record { is = any-turn (same_pair (a, b)) (pair_at l) i x e t h.is }

  pub place_found : (i : ℕ) (x : Bool) → x ≡ same_pair (a, b) (pair_at l i) → x ≡ true → i < n → Placed l n a b (Some i)
  unfolding is_listed
  place_found i x e t h = record { is = any-stop (same_pair (a, b)) (pair_at l) n i x e t h; low = h }

  pub stands_by : (p : ℕ) (x : Bool) → (0 < p) × (p ≤ n) → x ≡ same_pair (a, b) (pair_at l (p - 1)) → Stands l n a b x
  unfolding is_listed
  stands_by p x h e = record { is = λ t. any-stays (same_pair (a, b)) (pair_at l) n (p - 1) (omega arith) (sym e ∙ t) }
