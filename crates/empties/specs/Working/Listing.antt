-- Working definitions: the variables listed so far, and one more tried.
use Rattle.std.specs.Prelude.{◌≡◌, List, ◌∷◌, ℕ, ◌≤◌, length, take, if◌then◌else◌}
use Rattle.records.specs.Lists.{any, one_more}
use Rattle.records.specs.Store.{Store, same_class}

-- w, and v after it where v is of the class of neither e nor one of w
unfoldable pub tried : Store → ℕ → List ℕ → ℕ → List ℕ
tried s e w v = if any (same_class s v) (e ∷ w) then w else one_more w v

-- the first n words of l are w
pub record Starts (l : List ℕ) (n : ℕ) (w : List ℕ) : Type 0 where
  pub words : take n l ≡ w
  pub fits : n ≤ length l
