-- An aid: ends of climbs, kept by number, so that a climb stops at a term whose end is kept. No rule speaks of them.
use Rattle.std.specs.Prelude.{◌≡◌, Bool, true, List, ℕ, length, get_or}
use Rattle.records.specs.Store.{Store, within, climb, class_up, forest_up}
use Rattle.records.specs.Working.Leaves.{class_test}

-- n steps lead from t to r, and r is its own parent
pub record End (up : ℕ → ℕ) (n t r : ℕ) : Type 0 where
  pub reached : climb up n t ≡ r
  pub self : up r ≡ r

-- the end of each term, 0 where none is kept
pub record Ends (up : ℕ → ℕ) (n : ℕ) (table : List ℕ) : Type 0 where
  pub size : length table ≡ 513
  pub entries : (t : ℕ) → within n t ≡ true → (get_or table t 0 ≡ 0 → ⊥) → End up n t (get_or table t 0)

-- roots of classes and roots of trees
pub record Kept (s : Store) (n : ℕ) (roots tops : List ℕ) : Type 0 where
  pub classes : Ends (class_up s.terms) n roots
  pub trees : Ends (forest_up s.terms) n tops

-- what the test of t answers, and the tables that it leaves
pub record Tested (s : Store) (n t : ℕ) (b : Bool) (roots tops : List ℕ) : Type 0 where
  pub is : b ≡ class_test s t
  pub kept : Kept s n roots tops
