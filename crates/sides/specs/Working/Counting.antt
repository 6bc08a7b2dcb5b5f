-- Working definitions: the number of terms that a Split made, as the difference of two counts.
use Rattle.std.specs.Prelude.{List, ℕ, ◌-◌, ℤ, neg_ℤ}
use Rattle.records.specs.Store.{◌>>=◌, store, count}
use Rattle.sides.specs.Wordeq.{split, Tried, answer}

-- a Split that says how many terms the store has more than n
unfoldable pub split_from : ℤ → ℕ → List ℕ → Tried
split_from g n l = do
  s ← store
  answer (split l (neg_ℤ g) (count s - n))
