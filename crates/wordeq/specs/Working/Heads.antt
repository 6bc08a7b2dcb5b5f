-- Working definitions: step 7 behind its tests.
use Rattle.std.specs.Prelude.{◌≡◌, true, false, ◌&&◌, List, [], ◌∷◌, ℕ, ◌<◌, length, get_or, ℤ, if◌then◌else◌}
use Rattle.records.specs.Store.{Store, Work, ◌>>=◌, ◌>>◌, store, count, is_constant, is_string, text}
use Rattle.records.specs.Make.{add_key}
use Rattle.sides.specs.Wordeq.{Tried}
use Rattle.sides.specs.Working.Counting.{split_from}
use Rattle.wordeq.specs.Working.Splits.{character_atoms, head_atoms}

-- what step 1 leaves: two heads are different terms. A key is 'two different string terms'
pub record HeadsApart (l r : List ℕ) : Type 0 where
  pub apart : 0 < length l → 0 < length r → get_or l 0 0 ≡ get_or r 0 0 → ⊥

-- two heads to split
pub record HeadPair (s : Store) (a b : ℕ) : Type 0 where
  pub left : is_string s a ≡ true
  pub right : is_string s b ≡ true
  pub apart : a ≡ b → ⊥
  pub mixed : (is_constant s a && is_constant s b) ≡ false

-- the atoms for v against the constant of these characters
abbrev pub atoms_by : ℕ → List ℕ → Work (List ℕ) → Work (List ℕ)
atoms_by v [] other = other
atoms_by v (x ∷ w) other = character_atoms v x

-- 'variable head against a non-empty constant head, or else any variable head'
unfoldable pub atoms_of : ℕ → ℕ → Work (List ℕ)
atoms_of a b = do
  s ← store
  if is_constant s b then atoms_by a (text s b) (head_atoms a b)
      else if is_constant s a then atoms_by b (text s a) (head_atoms a b)
      else head_atoms a b

-- 'add the key and Split'
unfoldable pub split_new : ℤ → ℕ → ℕ → Tried
split_new g a b = do
  add_key a b
  s ← store
  atoms_of a b >>= split_from g (count s)
