-- The public calls that make constants and variables.
use mathlib.Core.Path.{◌≡◌, refl, sym, ap, ◌∙◌}
use mathlib.Core.Bool.{Bool, true, false, ◌&&◌}
use mathlib.Core.List.{List}
use Prim.Native.Nat.{ℕ}
use native.Mathlib.Omega.{arith}
use lib.ListN.{length}
use lib.Dec.{leb}
use borrow.Author.Tests.{le-leb, lt-leb}
use Rattle.records.specs.declared.State.{State}
use Rattle.std.specs.Prelude.{Result, Ok, Err}
use Rattle.records.specs.declared.refusal.Refusal.{Refusal}
use Rattle.records.specs.Lists.{all}
use Rattle.records.specs.Store.{Out, stop}
use Rattle.records.specs.View.{Lent, lent, store_of}
use Rattle.records.specs.Rules.{is_char, audit}
use Rattle.records.specs.Make.{make_constant, make_variable, constant_arguments, variable_arguments}
use Rattle.records.specs.Refusal.{number}
use Rattle.records.specs.Calls.{call, made, Public}
use Rattle.records.specs.Working.Doing.{Working, CutRefused}
use Rattle.records.proofs.Lists.{left_false, both_true, and-next}
use Rattle.records.proofs.Kept.{constant-stops, variable-stops}
use Rattle.records.proofs.Outcomes
use Rattle.records.proofs.Outcomes.{refused-by}
use Rattle.records.proofs.Public.{Undone, given, cut, call-unfit, call_undone}

module _ (w : List ℕ) (b : Bool) (test : b ≡ all is_char w) where
  wrong : b ≡ false → all is_char w ≡ false
  wrong d = sym test ∙ d

  pub right : b ≡ true → all is_char w ≡ true
  right d = sym test ∙ d

  pub right_name : (length w ≡ 0 → ⊥) → b ≡ true → (leb 1 (length w) && all is_char w) ≡ true
  right_name long d = both_true (leb 1 (length w)) (all is_char w) (le-leb 1 (length w) (omega arith)) (right d)

-- the answer of a make, handed on: after a refusal the index is cut
pub undone-made : {t t' : List ℕ} (e h r ks : List ℕ) {n : ℕ} (x : Result (ℕ × State) Refusal) {o : Result (ℕ × State) Refusal} → CutRefused t t' n x o → Undone (lent t e h r ks) (lent t' e h r ks) n (made x (lent t e h r ks)) (made o (lent t' e h r ks))
undone-made {t} e h r ks (Ok x) p =
    given (store_of (lent t e h r ks) x.1) x.0 refl (rw (p.same, p.given refl)) (ap (λ (l : List ℕ). lent l e h r ks) (p.given refl))
undone-made e h r ks (Err k) p = cut (number k) refl (rw p.same) (p.refused refl) (record { cells = refl; chars = refl; reasons = refl; keys = refl })

-- a make is refused under 8
pub full-stops : {j : ℕ} → j ≡ 8 → Outcomes.Refused 9 j
full-stops e = refused-by 8 (omega arith) (omega arith) e

module _ (w : List ℕ) (m : Lent) (c : State) (k : ℕ) (verdict : k ≡ audit m c) where
  module _ (zero_is : k ≡ 0) where
    pub variable-empty : length w ≡ 0 → Public (call (variable_arguments w) (make_variable w) m c) m m c (stop 5)
    variable-empty e =
        call-unfit (variable_arguments w) (make_variable w) m c k verdict zero_is _ refl (left_false _ _ (lt-leb 1 (length w) (omega arith)))

    module _ (b : Bool) (test : b ≡ all is_char w) where
      pub constant-unfit : b ≡ false → Public (call (constant_arguments w) (make_constant w) m c) m m c (stop 5)
      constant-unfit d = call-unfit (constant_arguments w) (make_constant w) m c k verdict zero_is _ refl (wrong w b test d)

      pub constant_called : b ≡ true → {m₁ m' : Lent} {r₁ r : Out ℕ} → Working (make_constant w) m m₁ c r₁ → Undone m₁ m' c.terms r₁ r
          → Public (call (constant_arguments w) (make_constant w) m c) m m' c r
      constant_called d =
          call_undone (constant_arguments w) (make_constant w) m c k verdict zero_is _ refl (right w b test d)
          (λ j e. full-stops (constant-stops w (store_of m c) j e))

      module _ (long : length w ≡ 0 → ⊥) where
        filled : leb 1 (length w) ≡ true
        filled = le-leb 1 (length w) (omega arith)

        pub variable-unfit : b ≡ false → Public (call (variable_arguments w) (make_variable w) m c) m m c (stop 5)
        variable-unfit d =
            call-unfit (variable_arguments w) (make_variable w) m c k verdict zero_is _ refl
            (sym (and-next (leb 1 (length w)) (all is_char w) false filled (sym (wrong w b test d))))

        pub variable_called : b ≡ true → {m₁ m' : Lent} {r₁ r : Out ℕ} → Working (make_variable w) m m₁ c r₁ → Undone m₁ m' c.terms r₁ r
            → Public (call (variable_arguments w) (make_variable w) m c) m m' c r
        variable_called d =
            call_undone (variable_arguments w) (make_variable w) m c k verdict zero_is _ refl
            (right_name w b test long d)
            (λ j e. full-stops (variable-stops w (store_of m c) j e))
