-- Working definitions: the atoms of a term, appended to a list in a lent slice.
use Rattle.std.specs.Prelude.{◌≡◌, true, List, [], ◌++◌, ℕ, ◌+◌, ◌≤◌, ◌<◌, length, take}
use Rattle.records.specs.Lists.{Every}
use Rattle.records.specs.Store.{Store, is_concat, parts}
use Rattle.records.specs.View.{lent, store_of}
use Rattle.records.specs.Working.Audited.{Ascends}
use Rattle.records.specs.Rules.{list_limit}

-- n terms and m cells, with nothing else
abbrev pub bare : List ℕ → ℕ → List ℕ → ℕ → Store
bare l n e m = store_of (lent l e [] [] []) (record { terms = n; cells = m; chars = 0; reasons = 0; keys = 0; names = 0 })

-- 'next is above its own number', 'Parts have lower numbers than the whole'
pub record Nested (s : Store) : Type 0 where
  pub ascends : Ascends s.cells
  pub lower : (t : ℕ) → is_concat s t ≡ true → Every (λ p. p < t) (parts s t)

-- w appended to the first n words of l gives the first r of l'; or r, and the list, passes the limit
pub record Appended (l l' : List ℕ) (n : ℕ) (w : List ℕ) (r : ℕ) : Type 0 where
  pub fits : r ≤ list_limit → take r l' ≡ take n l ++ w
  pub passes : list_limit < r → list_limit < n + length w
