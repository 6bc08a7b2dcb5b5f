-- Document 01, 'One equation'.
use Rattle.std.specs.Prelude.{◌≡◌, Bool, ◌&&◌, List, ℕ, ◌+◌, ℤ}
use Rattle.std.proofs.Math.Option.{Option, none, some}
use Rattle.records.specs.Store.{Store, ok, Work, ◌>>=◌, give, store, count, term, is_equation, is_string}
use Rattle.records.specs.Make.{with_reasons}
use Rattle.normalize.specs.Normalize.{deep_form}
use Rattle.records.specs.Rules.{is_list}
use Rattle.sides.specs.Wordeq.{Answer, done, saturated, conflict, propagate, split, resolve, is_guard}
use Rattle.sides.specs.Meaning.{Worth}

pub data Stepped : Type 0 where
  unexpanded : Stepped
  answered : Answer → Stepped

-- 'Split and Saturated carry the normal forms' reasons; Done returns the incoming count'
abbrev pub returned : List (ℕ × ℕ) → Answer → Work Stepped
returned rs done = λ s. ok (with_reasons s rs) (answered done)
returned rs saturated = give (answered saturated)
returned rs conflict = give (answered conflict)
returned rs (propagate v w k) = give (answered (propagate v w k))
returned rs (split l g n) = give (answered (split l g n))

-- 'None gives Unexpanded and the incoming reason count'
abbrev pub or_unexpanded : List (ℕ × ℕ) → (List ℕ → Work Stepped) → Option (List ℕ) → Work Stepped
or_unexpanded rs f none = λ s. ok (with_reasons s rs) unexpanded
or_unexpanded rs f (some l) = f l

-- 'deep form of left, then right, then wordeq with both lists' reasons incoming'; 'after a left None the right isn't tried'
unfoldable pub step : List ℕ → ℕ → ℤ → Work Stepped
step known e g = do
  s ← store
  deep_form known (term s e).first >>= or_unexpanded s.reasons (λ l.
      deep_form known (term s e).second >>= or_unexpanded s.reasons (λ r.
      resolve l r g >>= returned s.reasons))

-- 'From an equation of two string terms (one of lengths is refusal 5), the known list and a guard'
abbrev pub step_arguments : List ℕ → ℕ → ℤ → Store → Bool
step_arguments known e g s = is_list s known && is_equation s e && is_string s (term s e).first && is_guard g

-- Document 02, Note 5: a Split's number 'equals the growth of the term count within wordeq, terms of the normal forms left out': s is the
-- store at entry, s' that at exit
pub record GrowsAfterForms (known : List ℕ) (e : ℕ) (s s' : Store) (n : ℕ) : Type 0 where
  pub left : List ℕ
  pub right : List ℕ
  pub after_left : Store
  pub after_both : Store
  pub left_form : deep_form known (term s e).first s ≡ ok after_left (some left)
  pub right_form : deep_form known (term s e).second after_left ≡ ok after_both (some right)
  pub grows : count s' ≡ n + count after_both

-- demand 3, the sides being 'the two terms of the equation'
abbrev pub StepSound : Store → Store → ℕ → Stepped → Type 0
StepSound s s' e unexpanded = Unit {0}
StepSound s s' e (answered x) = Worth s s' (λ w. w (term s e).first) (λ w. w (term s e).second) x
