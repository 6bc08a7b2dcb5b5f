-- Step 5, 'One side constant, the other holding one variable class k times': what its working functions answer.
use Rattle.std.specs.Prelude.{◌≡◌, Bool, true, false, not, ◌&&◌, ◌||◌, List, ℕ, suc, ◌≤◌, ◌<◌, length, take, get_or}
use Rattle.records.specs.Lists.{all}
use Rattle.records.specs.Store.{Store, is_constant}
use Rattle.sides.specs.Wordeq.{same, fixed, letters, fits}

-- the place of the first variable of a side; where there is none, the side's end
pub record FirstVariable (s : Store) (r : List ℕ) (i : ℕ) : Type 0 where
  pub within : i ≤ length r
  pub before : fixed s (take i r) ≡ true
  pub at : i < length r → is_constant s (get_or r i 0) ≡ false

-- 'one variable class': an atom is a constant or the same as v
unfoldable pub agrees : Store → ℕ → ℕ → Bool
agrees s v a = is_constant s a || same s a v

-- 'No fit': the side has one variable class, v's, and no word for it fits; vs are the variables after v
abbrev pub unfit : Store → List ℕ → List ℕ → ℕ → List ℕ → Bool
unfit s l r v vs = all (λ u. same s u v) vs && not (fits s (letters s l) r (suc (length vs)))
