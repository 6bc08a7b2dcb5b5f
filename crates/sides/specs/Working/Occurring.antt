-- Step 2 place by place: what its working functions answer.
use Rattle.std.specs.Prelude.{List, ℕ, length, get_or, ltb, if◌then◌else◌}
use Rattle.std.proofs.Math.Option.{Option, none, some}
use Rattle.records.specs.Store.{Store}
use Rattle.sides.specs.Wordeq.{is_full}

-- the atom at a place; none past the end
unfoldable pub at_place : List ℕ → ℕ → Option ℕ
at_place l i = if ltb i (length l) then some (get_or l i 0) else none

-- how many of a list's non-empty constants are at the atom's own place
abbrev pub own_count : Store → ℕ → ℕ
own_count s a = if is_full s a then 1 else 0
