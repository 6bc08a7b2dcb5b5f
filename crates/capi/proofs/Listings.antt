-- A call that answers a list: the public call's outcome, told in words.
use Rattle.std.specs.Prelude.{if◌then◌else◌}
use mathlib.Core.Path.{◌≡◌, refl, sym, subst, ◌∙◌}
use mathlib.Core.Bool.{Bool, true, false}
use mathlib.Core.List.{List}
use Prim.Native.Nat.{ℕ, ◌≤◌}
use native.Mathlib.Omega.{arith}
use lib.ListN.{length}
use lib.Dec.{leb}
use borrow.Author.Tests.{leb-true}
use Rattle.records.specs.declared.State.{State}
use Rattle.records.specs.Store.{Store, Out, ok, stop, Work}
use Rattle.records.specs.View.{Lent, store_of}
use Rattle.records.specs.Make.{EachOnce}
use Rattle.records.specs.Rules.{list_limit}
use Rattle.records.specs.Working.Audited.{Audited}
use Rattle.records.specs.Calls.{call}
use Rattle.records.proofs.Works.{stop-not}
use Rattle.normalize.specs.Calls.{list_call, PublicList}
use Rattle.capi.specs.Interface.{state_of, state_room, answer_room, roomy, over, AnsweredList}
use Rattle.capi.specs.Working.Leaves.{written, Narrow, Telling, tells, refuses, ToldWords}
use Rattle.capi.proofs.Words.{roomy-state, roomy-answer}
use Rattle.capi.proofs.Exports.{Tells, narrow, call-gives, untold, Shows, told_exported, told-worth, told-stop}

module _ {A : Type 0} {fit : Store → Bool} {work : Work A} (can : Tells fit work) (m : Lent) (l : List ℕ) (c : State) where
  pub list-gives : {P : Store → A → Type 0} → ((s s' : Store) (x : A) → Audited s → fit s ≡ true → work s ≡ ok s' x → P s' x) → (s' : Store) (x : A) → list_call l fit work m c ≡ ok s' x → P s' x
  unfolding list_call
  list-gives {P} f s' x e = go (leb list_limit (length l)) e
    where
      go : (b : Bool) → (if b then call fit work m c else stop 1) ≡ ok s' x → P s' x
      go true e = call-gives fit work m c f s' x e
      go false e = stop-not e

  -- a call that answers had room for its list
  pub list-room : (s' : Store) (x : A) → list_call l fit work m c ≡ ok s' x → list_limit ≤ length l
  unfolding list_call
  list-room s' x e = go (leb list_limit (length l)) refl e
    where
      go : (b : Bool) → leb list_limit (length l) ≡ b → (if b then call fit work m c else stop 1) ≡ ok s' x → list_limit ≤ length l
      go true p e = leb-true list_limit (length l) p
      go false p e = stop-not e

module _ {A : Type 0} {fit : Store → Bool} {work : Work A} (can : Tells fit work) {m m' : Lent} {l l' : List ℕ} {c : State} {r : Out A} (called : PublicList (list_call l fit work m c) m m' l l' c r) where
  pub list_narrow : (d : State) (x : A) → r ≡ ok (store_of m' d) x → Narrow d
  list_narrow d x e = narrow m' d (list-gives can m l c {P = λ s y. Audited s} can.keeps (store_of m' d) x (sym called.store.says ∙ e))

  pub list_tellable : (words : A → List ℕ) (read : List ℕ → A) (T : Telling State) → Shows answer_room words read m' r T → (d : State) (v : List ℕ) → T ≡ tells d v → Narrow d
  list_tellable words read (tells d' v') s d v e = let q : d' ≡ d = cc in subst Narrow q (list_narrow d' s.value s.outcome)
  list_tellable words read (refuses n) s d v e = let z : ◌≡◌ {A = ℕ} 0 1 = cc in absurd (omega arith)

  module _ (words : A → List ℕ) (read : List ℕ → A) (T : Telling State) (shows : Shows answer_room words read m' r T) {w w' a a' : List ℕ} {k : ℕ} (room : roomy state_room w a ≡ true) (e : c ≡ state_of w) (t : ToldWords written w w' a a' T k) where
    pub list_exported : AnsweredList (over (roomy state_room w a) (list_call l fit work m (state_of w))) words m m' l l' w w' a a' (read a') k
    list_exported = record {
      is = told_exported answer_room words read m' r T shows t room (roomy-state state_room w a room) (roomy-answer state_room w a room) (subst (λ (d : State). PublicList (list_call l fit work m d) m m' l l' d r) e called).store;
      idle = λ z i. called.idle k (told-stop answer_room words read m' r T shows t z) i;
    }

    -- what the call says of the counts at entry holds of those read off
    pub list-worth : (P : State → Store → A → Type 0) → ((s' : Store) (x : A) → r ≡ ok s' x → P c s' x) → k ≡ 0 → P (state_of w) (store_of m' (state_of w')) (read a')
    list-worth P f z = told-worth answer_room words read m' r T shows t {P = P (state_of w)} (λ s' x q. subst (λ (d : State). P d s' x) e (f s' x q)) z

    pub list-once : ((s' : Store) (x : A) → r ≡ ok s' x → EachOnce (store_of m c).reasons s'.reasons) → k ≡ 0 → EachOnce (store_of m (state_of w)).reasons (store_of m' (state_of w')).reasons
    list-once f z = list-worth (λ d s' x. EachOnce (store_of m d).reasons s'.reasons) f z

-- a state or an answer too short
pub untold_list : {A : Type 0} {b : Bool} (o : Out A) (words : A → List ℕ) (m : Lent) (l w a : List ℕ) (x : A) → b ≡ false → {k : ℕ} → k ≡ 1 → AnsweredList (over b o) words m m l l w w a a x k
untold_list o words m l w a x e i = record { is = record { is = untold o m w (length (words x)) a x e i; says = λ z. absurd (omega arith) }; idle = λ z j. refl }
