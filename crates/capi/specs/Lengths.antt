-- What the exported call for the forced length promises.
use Rattle.std.specs.Prelude.{◌≡◌, List, [], ◌∷◌, ℕ, zero, suc, get_or}
use Rattle.records.specs.View.{Lent, store_of}
use Rattle.records.specs.Calls.{call}
use Rattle.wordeq.specs.Calls.{equal_arguments}
use Rattle.forced.specs.Forced.{Span, spans, short, Fit, forced_length}
use Rattle.forced.specs.Forces.{Forces}
use Rattle.capi.specs.Interface.{state_of, state_room, roomy, over, Answered}

-- word 0 is 0 where m and r are answered and 1 for a shortage; words 1 to 3 are k, c and l; words 4 and 5 m and r, or the shortage and 0
abbrev pub span_words : ℕ → ℕ → ℕ → Span → List ℕ
span_words k c l (spans m r) = 0 ∷ k ∷ c ∷ l ∷ m ∷ r ∷ []
span_words k c l (short d) = 1 ∷ k ∷ c ∷ l ∷ d ∷ 0 ∷ []

abbrev pub fit_words : Fit → List ℕ
fit_words x = span_words x.k x.c x.l x.span

-- the answer that the words a give
abbrev pub span_by : ℕ → List ℕ → Span
span_by zero a = spans (get_or a 4 0) (get_or a 5 0)
span_by (suc n) a = short (get_or a 4 0)

abbrev pub fit_read : List ℕ → Fit
fit_read a = record { k = get_or a 1 0; c = get_or a 2 0; l = get_or a 3 0; span = span_by (get_or a 0 0) a }

-- forced_length told in words, and what it is worth; the store is as it was
pub record ExportedForced (l r : List ℕ) (m : Lent) (w a a' : List ℕ) (k : ℕ) : Type 0 where
  pub is : Answered (over (roomy state_room w a) (call (equal_arguments l r) (forced_length l r) m (state_of w))) fit_words m m w w a a' (fit_read a') k
  pub worth : k ≡ 0 → Forces (store_of m (state_of w)) l r (fit_read a')
