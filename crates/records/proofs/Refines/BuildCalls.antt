-- The public calls that make concatenations, lengths and equations: their arguments, and the ways through.
use mathlib.Core.Path.{◌≡◌, refl, sym, ◌∙◌}
use mathlib.Core.Bool.{Bool, true, false}
use mathlib.Core.List.{List}
use Prim.Native.Nat.{ℕ, ◌<◌, ◌≤◌}
use lib.ListN.{length}
use lib.Dec.{leb}
use borrow.Author.Tests.{le-leb, lt-leb}
use Rattle.records.specs.declared.State.{State}
use Rattle.records.specs.Store.{Out, stop, is_string}
use Rattle.records.specs.View.{Lent, lent, store_of, termed}
use Rattle.records.specs.Rules.{is_list, is_equatable, audit}
use Rattle.records.specs.Make.{make_concat, make_length, make_equation, concat_arguments, length_arguments, equation_arguments}
use Rattle.records.specs.Calls.{call, Public}
use Rattle.records.specs.Working.Doing.{Working}
use Rattle.records.proofs.Lists.{left_false, both_true}
use Rattle.records.proofs.Refines.MakeCalls.{full-stops}
use Rattle.records.proofs.Kept.{concat-stops, length-stops, equation-stops}
use Rattle.records.proofs.Public.{Undone, call-unfit, call_undone}

-- what the work requires, where the code's test passes
pub concat-right : (m : Lent) (c : State) (l : List ℕ) (b : Bool) → 2 ≤ length l → b ≡ is_list (termed m.terms c) l → b ≡ true → concat_arguments l (store_of m c) ≡ true
concat-right m c l b two test f = both_true (leb 2 (length l)) (is_list (store_of m c) l) (le-leb 2 (length l) two) (sym test ∙ f)

pub equation-right : (m : Lent) (c : State) (x y : ℕ) (b : Bool) → b ≡ is_equatable (termed m.terms c) x y → b ≡ true → equation_arguments x y (store_of m c) ≡ true
unfolding is_equatable
equation-right m c x y b test f = sym test ∙ f

-- THE CALLS: `b` is the code's test of the arguments, which reads the terms alone

module _ (t e h r ks : List ℕ) (c : State) (k : ℕ) (verdict : k ≡ audit (lent t e h r ks) c) (ready : k ≡ 0) where
  module _ (l : List ℕ) where
    pub concat-few : length l < 2 → Public (call (concat_arguments l) (make_concat l) (lent t e h r ks) c) (lent t e h r ks) (lent t e h r ks) c (stop 5)
    concat-few f = call-unfit (concat_arguments l) (make_concat l) (lent t e h r ks) c k verdict ready _ refl (left_false _ _ (lt-leb 2 (length l) f))

    module _ (two : 2 ≤ length l) (b : Bool) (test : b ≡ is_list (termed t c) l) where
      fit_is : b ≡ concat_arguments l (store_of (lent t e h r ks) c)
      fit_is = rw (le-leb 2 (length l) two) test

      pub concat-unfit : b ≡ false → Public (call (concat_arguments l) (make_concat l) (lent t e h r ks) c) (lent t e h r ks) (lent t e h r ks) c (stop 5)
      concat-unfit f = call-unfit (concat_arguments l) (make_concat l) (lent t e h r ks) c k verdict ready b fit_is f

      pub concat_called : b ≡ true → {m₁ m' : Lent} {o₁ o : Out ℕ} → Working (make_concat l) (lent t e h r ks) m₁ c o₁ → Undone m₁ m' c.terms o₁ o
          → Public (call (concat_arguments l) (make_concat l) (lent t e h r ks) c) (lent t e h r ks) m' c o
      concat_called f =
          call_undone (concat_arguments l) (make_concat l) (lent t e h r ks) c k verdict ready b fit_is f
          (λ j q. full-stops (concat-stops l (store_of (lent t e h r ks) c) j q))

  module _ (a : ℕ) (b : Bool) (test : b ≡ is_string (termed t c) a) where
    pub length-unfit : b ≡ false → Public (call (length_arguments a) (make_length a) (lent t e h r ks) c) (lent t e h r ks) (lent t e h r ks) c (stop 5)
    length-unfit f = call-unfit (length_arguments a) (make_length a) (lent t e h r ks) c k verdict ready b test f

    pub length_called : b ≡ true → {m₁ m' : Lent} {o₁ o : Out ℕ} → Working (make_length a) (lent t e h r ks) m₁ c o₁ → Undone m₁ m' c.terms o₁ o
        → Public (call (length_arguments a) (make_length a) (lent t e h r ks) c) (lent t e h r ks) m' c o
    length_called f =
        call_undone (length_arguments a) (make_length a) (lent t e h r ks) c k verdict ready b test f
        (λ j q. full-stops (length-stops a (store_of (lent t e h r ks) c) j q))

  module _ (x y : ℕ) (b : Bool) (test : b ≡ is_equatable (termed t c) x y) where
    sides_fit_lem : b ≡ is_equatable (store_of (lent t e h r ks) c) x y
    unfolding is_equatable
    sides_fit_lem = test

    pub equation-unfit : b ≡ false → Public (call (equation_arguments x y) (make_equation x y) (lent t e h r ks) c) (lent t e h r ks) (lent t e h r ks) c (stop 5)
    equation-unfit f = call-unfit (equation_arguments x y) (make_equation x y) (lent t e h r ks) c k verdict ready b sides_fit_lem f

    pub equation_called : b ≡ true → {m₁ m' : Lent} {o₁ o : Out ℕ} → Working (make_equation x y) (lent t e h r ks) m₁ c o₁ → Undone m₁ m' c.terms o₁ o
        → Public (call (equation_arguments x y) (make_equation x y) (lent t e h r ks) c) (lent t e h r ks) m' c o
    equation_called f =
        call_undone (equation_arguments x y) (make_equation x y) (lent t e h r ks) c k verdict ready b sides_fit_lem f
        (λ j q. full-stops (equation-stops x y (store_of (lent t e h r ks) c) j q))
