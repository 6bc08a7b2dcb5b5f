-- A call that answers counts alone, told in words.
use Rattle.std.specs.Prelude.{Result, Ok}
use mathlib.Core.Path.{◌≡◌, refl, sym, ap, subst, ◌∙◌}
use mathlib.Core.Bool.{Bool}
use mathlib.Core.List.{List, []}
use mathlib.Core.Logic.{inl}
use Prim.Native.Nat.{ℕ, ◌≤◌}
use native.Mathlib.Omega.{arith}
use lib.ListN.{length}
use lib.Dec.{leb}
use borrow.Author.Tests.{le-leb}
use Rattle.records.specs.declared.State.{State}
use Rattle.records.specs.declared.refusal.Refusal.{Refusal}
use Rattle.records.specs.Store.{Store, ok, stop, Work}
use Rattle.records.specs.View.{Lent, store_of}
use Rattle.records.specs.Make.{EachOnce}
use Rattle.records.specs.Calls.{call, Public, added, full_alone}
use Rattle.capi.specs.Interface.{state_of, state_room, over, Exported}
use Rattle.capi.specs.Working.Leaves.{written, Narrow, tells, ToldBy, added_telling}
use Rattle.capi.proofs.Exports.{Tells, narrow, call-audited, Shows, shows_or, told_exported, told-worth, told-stop}

abbrev no_words : Unit {0} → List ℕ
no_words u = []

abbrev no_read : List ℕ → Unit {0}
no_read a = tt

added-shows : (r : Result State Refusal) (m' : Lent) → Shows 0 no_words no_read m' (added r m') (added_telling r)
added-shows r m' =
    shows_or 0 no_words no_read m' (λ x. added x m') (λ c. tells c []) (λ e. refl) r (λ d q. record { value = tt; outcome = refl; spelt = refl; few = omega arith; back = λ z. refl })

module _ {fit : Store → Bool} {work : Work (Unit {0})} (can : Tells fit work) {m m' : Lent} {c : State} (r : Result State Refusal) (called : Public (call fit work m c) m m' c (added r m')) where
  pub counts_tellable : (d : State) → r ≡ Ok d → Narrow d
  counts_tellable d e = narrow m' d (call-audited can m c (store_of m' d) tt (sym called.says ∙ ap (λ (x : Result State Refusal). added x m') e))

  module _ {w w' : List ℕ} {k : ℕ} (t : ToldBy written added_telling w w' [] [] r k) where
    pub counts_exported : state_room ≤ length w → c ≡ state_of w → Exported (over (leb state_room (length w)) (call fit work m (state_of w))) m m' w w' 0 [] [] tt k
    counts_exported room e =
        (told_exported 0 no_words no_read m' (added r m') (added_telling r) (added-shows r m') t.is (le-leb state_room (length w) room) room (omega arith)
        (subst (λ (d : State). Public (call fit work m d) m m' d (added r m')) e called)).is

    -- what the call says of the counts at entry holds of those read off
    pub counts-worth : (P : State → Store → Type 0) → c ≡ state_of w → ((s' : Store) → added r m' ≡ ok s' tt → P c s') → k ≡ 0 → P (state_of w) (store_of m' (state_of w'))
    counts-worth P e f z = told-worth 0 no_words no_read m' (added r m') (added_telling r) (added-shows r m') t.is {P = λ s u. P (state_of w) s} (λ s' u q. subst (λ (d : State). P d s') e (f s' q)) z

    pub counts-once : c ≡ state_of w → ((s' : Store) → added r m' ≡ ok s' tt → EachOnce (store_of m c).reasons s'.reasons) → k ≡ 0 → EachOnce (store_of m (state_of w)).reasons (store_of m' (state_of w')).reasons
    counts-once e f z = counts-worth (λ d s'. EachOnce (store_of m d).reasons s'.reasons) e f z

    -- what holds of every stop's number holds of the result, where it is a refusal
    pub counts-full : ((j : ℕ) → added r m' ≡ stop j → full_alone j) → full_alone k
    counts-full f h = f k (told-stop 0 no_words no_read m' (added r m') (added_telling r) (added-shows r m') t.is (λ z. h (inl (omega arith)))) h
