-- Document 02, Note 6: the forced length.
use Rattle.std.specs.Prelude.{Bool, false, ◌&&◌, List, [], ◌∷◌, ℕ, ◌-◌, ◌/◌, ◌%◌, length, ltb, if◌then◌else◌}
use Rattle.records.specs.Lists.{all}
use Rattle.records.specs.Store.{Store, Work, ◌>>=◌, give, refuse, store}
use Rattle.normalize.specs.Normalize.{flatten}
use Rattle.sides.specs.Wordeq.{same, fixed, letters, variables, rest}

-- 'the quotient m and the remainder r'; 'Where l is below c, the shortage c minus l replaces m and r'
pub data Span : Type 0 where
  spans : ℕ → ℕ → Span
  short : ℕ → Span

-- 'return k, c, l, ..': k variables and c constant characters against l characters
pub record Fit : Type 0 where
  pub k : ℕ
  pub c : ℕ
  pub l : ℕ
  pub span : Span

abbrev pub span_of : ℕ → ℕ → ℕ → Span
span_of k c l = if ltb l c then short (c - l) else spans ((l - c) / k) ((l - c) % k)

-- k variables, c and l characters
abbrev pub fit_of : ℕ → ℕ → ℕ → Fit
fit_of k c l = record { k = k; c = c; l = l; span = span_of k c l }

-- at least one variable, and all of them the same
unfoldable pub one_class : Store → List ℕ → Bool
one_class s [] = false
one_class s (v ∷ vs) = all (λ u. same s u v) vs

-- 'recognised under step 5's conditions', which are 'One side constant, the other holding one variable class k times': l is the constant
-- side, the empty list too
abbrev pub is_forced : Store → List ℕ → List ℕ → Bool
is_forced s l r = fixed s l && one_class s (variables s r)

-- 'For a side of constants against one variable class'
abbrev pub side_fit : Store → List ℕ → List ℕ → Fit
side_fit s l r = fit_of (length (variables s r)) (length (letters s r)) (length (letters s l))

-- whichever of the two is constant; '11 .. where the residual lists don't have that form'
unfoldable pub sides_fit : List ℕ → List ℕ → Work Fit
sides_fit l r = do
  s ← store
  if is_forced s l r then give (side_fit s l r) else if is_forced s r l then give (side_fit s r l) else refuse 11

-- 'Both residual lists are taken after stripping'
unfoldable pub residual_fit : List ℕ → List ℕ → Work Fit
residual_fit l r = do
  s ← store
  sides_fit (rest s l r).0 (rest s l r).1

-- both lists flattened, left first
unfoldable pub forced_length : List ℕ → List ℕ → Work Fit
forced_length l r = do
  l₁ ← flatten l
  r₁ ← flatten r
  residual_fit l₁ r₁
