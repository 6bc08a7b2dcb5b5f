-- Where a reason stands in a list, and the words that remember it.
use Rattle.std.specs.Prelude.{◌≡◌, Bool, true, List, ℕ, ◌<◌, get_or, Option, is_some, IfSome}
use Rattle.records.specs.View.{pairs_view}
use Rattle.records.specs.Make.{is_listed}

-- a place exactly where the pair is there
pub record Placed (l : List ℕ) (n a b : ℕ) (r : Option ℕ) : Type 0 where
  pub is : is_some r ≡ is_listed (a, b) (pairs_view l n)
  pub low : IfSome r (λ i. i < n)

-- true only where the pair is there
pub record Stands (l : List ℕ) (n a b : ℕ) (r : Bool) : Type 0 where
  pub is : r ≡ true → is_listed (a, b) (pairs_view l n) ≡ true

-- every word but that at the slot stays
abbrev pub Besides : List ℕ → List ℕ → ℕ → Type 0
Besides places places' slot = (i : ℕ) → (i ≡ slot → ⊥) → get_or places' i 0 ≡ get_or places i 0

-- whether the pair is there, the slot at most being written
pub record Looked (l places places' : List ℕ) (n a b slot : ℕ) (r : Bool) : Type 0 where
  pub is : r ≡ is_listed (a, b) (pairs_view l n)
  pub elsewhere : Besides places places' slot
