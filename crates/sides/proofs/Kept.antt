-- The elements of a list that a test keeps, as the library filters them.
use Rattle.std.specs.Prelude.{filter, cond, if◌then◌else◌}
use mathlib.Core.Path.{◌≡◌, refl, ap}
use mathlib.Core.Bool.{Bool, true, false}
use mathlib.Core.List.{List, [], ◌∷◌}
use Prim.Native.Nat.{ℕ}
use Rattle.records.specs.Lists.{keep}

pub filter-keep : (p : ℕ → Bool) (l : List ℕ) → filter p l ≡ keep p l
unfolding keep
filter-keep p [] = refl
filter-keep p (a ∷ l) = go (p a) (filter-keep p l)
  where
    go : (b : Bool) → filter p l ≡ keep p l → cond b (a ∷ filter p l) (filter p l) ≡ (if b then (a ∷ keep p l) else keep p l)
    go true e = ap (λ (x : List ℕ). a ∷ x) e
    go false e = e
