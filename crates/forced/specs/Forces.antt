-- What a forced length is worth.
use Rattle.std.specs.Prelude.{◌≡◌, List, ◌++◌, ℕ, ◌+◌, ◌*◌, ◌≤◌, ◌<◌, ℤ, if◌then◌else◌}
use Rattle.records.specs.Lists.{any}
use Rattle.records.specs.Store.{Store, Out, ok, stop, is_concat}
use Rattle.sides.specs.Wordeq.{Answer, saturated, conflict, resolve}
use Rattle.forced.specs.Forced.{Span, spans, short, Fit}

-- 'l = c + k × m + r and r below k'; the shortage is what l lacks of c
abbrev pub Sums : ℕ → ℕ → ℕ → Span → Type 0
Sums k c l (spans m r) = (l ≡ c + k * m + r) × (r < k)
Sums k c l (short d) = (c ≡ l + d) × (0 < d)

-- 'why a repeated field can't fit': a remainder above 0, or a shortage
abbrev pub Unfit : Span → Type 0
Unfit (spans m r) = 0 < r
Unfit (short d) = Unit {0}

-- 1,024 constants of 16,384 characters each
abbrev pub letter_limit : ℕ
letter_limit = 16777216

abbrev pub FewSpan : Span → Type 0
FewSpan (spans m r) = (m ≤ letter_limit) × (r ≤ letter_limit)
FewSpan (short d) = d ≤ letter_limit

-- so a word of 32 bits holds each number
pub record Few (x : Fit) : Type 0 where
  pub k : x.k ≤ letter_limit
  pub c : x.c ≤ letter_limit
  pub l : x.l ≤ letter_limit
  pub span : FewSpan x.span

-- the answer y and no other; or refusal 7, the reasons being full, and no other
pub data Only (y : Answer) : Out Answer → Type 0 where
  answers : (s : Store) → Only y (ok s y)
  full : Only y (stop 7)

-- s is the store at entry, x the answer. With a remainder or a shortage wordeq on the same two lists, whatever the guard, answers Conflict, or
-- Saturated where it flattened a concatenation, unless a reason finds no room. What that Conflict is worth, under the reasons that it names, is `Sound`
pub record Forces (s : Store) (l r : List ℕ) (x : Fit) : Type 0 where
  pub sums : Sums x.k x.c x.l x.span
  pub answer : Unfit x.span → (g : ℤ) → Only (if any (is_concat s) (l ++ r) then saturated else conflict) (resolve l r g s)
