-- A loop that adds reasons, one explanation a turn: what is left of the work, done from here, is the whole of it.
use mathlib.Core.Path.{◌≡◌, refl, sym, ap, ◌∙◌}
use mathlib.Core.List.{List}
use Prim.Native.Nat.{ℕ, ◌+◌}
use Rattle.records.specs.declared.State.{State}
use Rattle.std.specs.Prelude.{Ok, Err}
use Rattle.records.specs.declared.refusal.Refusal.{Refusal}
use Rattle.records.specs.Store.{ok, Work, and_then}
use Rattle.records.specs.View.{Lent, lent, store_of}
use Rattle.records.specs.Meaning.{Words}
use Rattle.records.specs.Working.Audited.{Ready}
use Rattle.records.specs.Calls.{added}
use Rattle.records.specs.Working.Doing.{Working}
use Rattle.records.proofs.IndexStores.{keeps-terms}
use Rattle.records.proofs.Doing.{working_stopped, working_left}
use Rattle.sides.proofs.Cited.{Cited}
use Rattle.sides.proofs.Refines.AddingReasons.{Going, going_none, going_then, kept_down}

-- the work that is left after i turns
module _ (t e h ks : List ℕ) (left : ℕ → Work (Unit {0})) where
  abbrev at : List ℕ → Lent
  at rs = lent t e h rs ks

  pub record Turning (c : State) (rs : List ℕ) (d : State) (rs' : List ℕ) (i : ℕ) : Type 0 where
    pub going : Going t e h ks c rs d rs'
    pub rest : left i (store_of (at rs') d) ≡ left 0 (store_of (at rs) c)

  pub turning_none : {c : State} {rs : List ℕ} → Ready (at rs) c → Turning c rs c rs 0
  turning_none d = record { going = going_none t e h ks d; rest = refl }

  module _ {c d : State} {rs rs₁ : List ℕ} {i : ℕ} (g : Turning c rs d rs₁ i) where
    pub turning_end : left i (store_of (at rs₁) d) ≡ ok (store_of (at rs₁) d) tt → Working (left 0) (at rs) (at rs₁) c (added (Ok d) (at rs₁))
    turning_end z = working_left g.going.ready (sym g.rest ∙ z) (keeps-terms g.going.kept refl)

    -- the work of turn i
    module _ (one : Work (Unit {0})) (next : left i (store_of (at rs₁) d) ≡ and_then (λ u. left (i + 1)) (one (store_of (at rs₁) d)))
        (rs₂ : List ℕ) where
      pub turning_refused : (n : Refusal) → Working one (at rs₁) (at rs₂) d (added (Err n) (at rs₂)) → Working (left 0) (at rs) (at rs₂) c (added (Err n) (at rs₂))
      turning_refused n w =
          working_stopped (sym g.rest ∙ next ∙ ap (and_then (λ u. left (i + 1))) w.says) (keeps-terms (kept_down t e h ks g.going rs₂ w.kept.store) refl)

      pub turning_on : {P : Words → Type 0} (d₂ : State) → Working one (at rs₁) (at rs₂) d (added (Ok d₂) (at rs₂))
          → (one (store_of (at rs₁) d) ≡ ok (store_of (at rs₂) d₂) tt → Cited P (store_of (at rs₁) d) (store_of (at rs₂) d₂)) → Turning c rs d₂ rs₂ (i + 1)
      turning_on d₂ w x = record {
        going = going_then t e h ks g.going rs₂ (w.ready d₂ tt refl) (x w.says).added w.kept.store;
        rest = sym (next ∙ ap (and_then (λ u. left (i + 1))) w.says) ∙ g.rest;
      }
