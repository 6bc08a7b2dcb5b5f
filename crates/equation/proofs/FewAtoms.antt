-- A Split of the step lists at most three atoms, its guard is the one handed in, negated, and it makes at most nine terms.
use mathlib.Core.List.{List}
use mathlib.Core.Option.{Option, none, some}
use Prim.Native.Nat.{ℕ}
use lib.IntN.{ℤ}
use Rattle.records.specs.Store.{Store, Work, term}
use Rattle.normalize.specs.Normalize.{deep_form}
use Rattle.sides.specs.Wordeq.{Answer, done, saturated, conflict, propagate, split, resolve}
use Rattle.sides.proofs.FewAtoms.{Always, give_has, next-has, then-has, Few, resolve-few}
use Rattle.equation.specs.Equation.{Stepped, unexpanded, answered, returned, or_unexpanded, step}

module _ (g : ℤ) where
  abbrev pub FewStep : Stepped → Type 0
  FewStep unexpanded = Unit {0}
  FewStep (answered x) = Few g x

  returned-few : (rs : List (ℕ × ℕ)) (s : Store) (x : Answer) → Few g x → Always FewStep (returned rs x s)
  returned-few rs s done k = give_has tt
  returned-few rs s saturated k = give_has tt
  returned-few rs s conflict k = give_has tt
  returned-few rs s (propagate v x f) k = give_has tt
  returned-few rs s (split l h n) k = give_has k

  or-few : (rs : List (ℕ × ℕ)) (f : List ℕ → Work Stepped) → ((l : List ℕ) (s : Store) → Always FewStep (f l s)) → (s : Store) (o : Option (List ℕ)) → Always FewStep (or_unexpanded rs f o s)
  or-few rs f h s none = give_has tt
  or-few rs f h s (some l) = h l s

  pub step-few : (known : List ℕ) (e : ℕ) (s : Store) → Always FewStep (step known e g s)
  unfolding step
  step-few known e s =
      then-has _ (deep_form known (term s e).first s) (λ s₁ o. or-few s.reasons _
      (λ l s₂. then-has _ (deep_form known (term s e).second s₂) (λ s₃ u. or-few s.reasons _
      (λ r s₄. next-has _ (resolve l r g s₄) (resolve-few g l r s₄) (λ s₅ x k. returned-few s.reasons s₅ x k)) s₃ u)) s₁ o)
