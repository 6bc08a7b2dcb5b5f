-- Step 3 over a whole store: what its function requires, and what it answers. It reads terms and characters alone.
use mathlib.Core.Path.{◌≡◌, refl, sym, ◌∙◌}
use mathlib.Core.Bool.{Bool, true, false}
use mathlib.Core.List.{List}
use Prim.Native.Nat.{ℕ, ◌≤◌}
use lib.ListN.{length}
use Rattle.records.specs.declared.State.{State}
use Rattle.records.specs.View.{Lent, store_of, read_in}
use Rattle.records.specs.Rules.{list_limit}
use Rattle.records.specs.Working.Audited.{Ready}
use Rattle.records.proofs.ListLaws.{list-short}
use Rattle.records.proofs.Doing.{working_same}
use Rattle.std.specs.Prelude.{Ok}
use Rattle.sides.specs.declared.StepResult.TheVariants as step
use Rattle.sides.specs.Wordeq.{fixed, letters_of, letters, unequal, short, absent, constants}
use Rattle.sides.specs.Working.Sides.{Spelled}
use Rattle.sides.specs.Working.Lacking.{conflicts}
use Rattle.sides.specs.Working.Results.{BothLists, Tries}
use Rattle.sides.proofs.SideReady.{ready-read_in}

module _ (m : Lent) (c : State) (l r : List ℕ) where
  pub conflicts-whole : conflicts (read_in m.terms m.chars c) l r ≡ conflicts (store_of m c) l r
  unfolding conflicts unequal short absent fixed letters letters_of
  conflicts-whole = refl

  -- what the code's step 3 requires
  pub constants_need : Ready m c → BothLists (store_of m c) l r → Spelled m.terms m.chars c × (length l ≤ list_limit) × (length r ≤ list_limit)
  constants_need x b = (ready-read_in m c x, list-short (store_of m c) l b.left, list-short (store_of m c) r b.right)

  -- and what it answers
  module _ (ready : Ready m c) (b : Bool) (e : b ≡ conflicts (read_in m.terms m.chars c) l r) where
    pub constants-conflict : b ≡ true → Tries (constants l r) m m c (Ok (step.Conflict c))
    unfolding constants conflicts
    constants-conflict q = record { is = λ k. working_same ready (let f = sym (e ∙ conflicts-whole) ∙ q in rw f) }

    pub constants-pass : b ≡ false → Tries (constants l r) m m c (Ok (step.Done c))
    unfolding constants conflicts
    constants-pass q = record { is = λ k. working_same ready (let f = sym (e ∙ conflicts-whole) ∙ q in rw f) }
