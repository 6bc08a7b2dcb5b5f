-- An aid: the heights of pairs' paths, kept by cell, so that a path is walked once however many edges share the cell. No rule speaks of them.
use Rattle.std.specs.Prelude.{◌≡◌, Bool, List, ℕ, ◌-◌, ◌≤◌, ◌<◌, get_or, leb}
use Rattle.records.specs.Lists.{all, up_to}
use Rattle.records.specs.Store.{Store, above_in}
use Rattle.records.specs.View.{terms_view, cell_at}
use Rattle.records.specs.Rules.{stamp_below, falls_rule}

-- above every stamp
abbrev pub never : ℕ
never = 8589934592

-- the stamps from y up to x are below m exactly where m is r or higher
pub record Above (l : List ℕ) (n y x r : ℕ) : Type 0 where
  pub low : r < never
  pub is : (m : ℕ) → all (stamp_below (terms_view l n) m) (up_to x (above_in (terms_view l n) y)) ≡ leb r m

-- an edge with this pair may have the stamp m exactly where m is h or higher
pub record Height (s : Store) (p : ℕ × ℕ) (h : ℕ) : Type 0 where
  pub low : h ≤ never
  pub is : (m : ℕ) → m < never → falls_rule s m p ≡ leb h m

-- a cell's height and one, or 0 where it is not kept
pub record Heights (s : Store) (cells table : List ℕ) : Type 0 where
  pub entries : (x : ℕ) → (get_or table x 0 ≡ 0 → ⊥) → Height s ((cell_at cells x).value, (cell_at cells x).other) (get_or table x 0 - 1)

-- a cell's height, and the table that is left
pub record KeptHeight (s : Store) (cells table : List ℕ) (x r : ℕ) : Type 0 where
  pub is : Height s ((cell_at cells x).value, (cell_at cells x).other) r
  pub kept : Heights s cells table

-- what a test answers, and the table that is left
pub record Told (s : Store) (cells table : List ℕ) (b rule : Bool) : Type 0 where
  pub is : b ≡ rule
  pub kept : Heights s cells table
