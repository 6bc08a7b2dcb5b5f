-- A record's first word as a kind: the number of the kind that it names, and none of the five where it names none.
use mathlib.Core.Path.{◌≡◌, sym, ap, ◌∙◌}
use mathlib.Core.Logic.{◌⊎◌, inl, inr}
use Prim.Native.Nat.{ℕ, ◌≤◌, ◌<◌}
use native.Mathlib.Omega.{arith}
use Rattle.records.specs.declared.kind.Kind.{Kind}
use Rattle.records.specs.Kind.{kind_number}

pub kind_is : {k : ℕ} {x y : Kind} → kind_number x ≡ k → x ≡ y → k ≡ kind_number y
kind_is e q = sym e ∙ ap kind_number q

pub kind_none : {k : ℕ} (n : ℕ) → (k ≡ 0) ⊎ (5 < k) → 1 ≤ n → n ≤ 5 → k ≡ n → ⊥
kind_none n (inl e) p q i = absurd (omega arith)
kind_none n (inr e) p q i = absurd (omega arith)
