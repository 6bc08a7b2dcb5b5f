-- The ways of a call that answers a list: its slice is short, the audit refuses, an argument is wrong, or the work is done.
use mathlib.Core.Path.{◌≡◌, refl, sym, ◌∙◌}
use mathlib.Core.Bool.{Bool, true, false, not}
use mathlib.Core.List.{List}
use Prim.Native.Nat.{ℕ, ◌≤◌, ◌<◌}
use lib.ListN.{length}
use borrow.Author.Tests.{le-leb, lt-leb, not-true, not-false}
use Rattle.records.specs.declared.State.{State}
use Rattle.records.specs.Store.{Store, Out, stop, Work}
use Rattle.records.specs.View.{Lent, store_of}
use Rattle.records.specs.Rules.{audit, list_limit}
use Rattle.records.specs.Calls.{Public, call}
use Rattle.records.specs.Working.Doing.{Working}
use Rattle.records.proofs.IndexLaws.{same_none}
use Rattle.records.proofs.Outcomes.{Refused}
use Rattle.records.proofs.Public.{Undone, undone-is, work_writes, call_unready, call-unfit, call_undone}
use Rattle.records.proofs.Works.{stop-not}
use Rattle.normalize.specs.Calls.{list_call, PublicList}

module _ {A : Type 0} (fit : Store → Bool) (work : Work A) (m : Lent) (c : State) (l : List ℕ) where
  pub listed-short : length l < list_limit → PublicList (list_call l fit work m c) m m l l c (stop 1)
  unfolding list_call
  listed-short h = record { store = record { says = rw (lt-leb list_limit (length l) h); idle = λ k e i. refl; kept = refl; back = λ k e. same_none m.terms c.terms; passes = λ d a e. stop-not e }; idle = λ k e i. refl }

  module _ (h : list_limit ≤ length l) (k : ℕ) (v : k ≡ audit m c) where
    listed : {m' : Lent} {r : Out A} → Public (call fit work m c) m m' c r → Public (list_call l fit work m c) m m' c r
    unfolding list_call
    listed p = record { says = rw (le-leb list_limit (length l) h) p.says; idle = p.idle; kept = p.kept; back = p.back; passes = p.passes }

    pub listed_unready : (k ≡ 0 → ⊥) → PublicList (list_call l fit work m c) m m l l c (stop k)
    listed_unready d = record { store = listed (call_unready fit work m c k v d); idle = λ j e i. refl }

    module _ (z : k ≡ 0) (b : Bool) (e : b ≡ fit (store_of m c)) where
      pub listed-unfit : not b ≡ true → PublicList (list_call l fit work m c) m m l l c (stop 5)
      listed-unfit g = record { store = listed (call-unfit fit work m c k v z b e (not-true b g)); idle = λ j q i. refl }

      pub listed-works : not b ≡ false → ((j : ℕ) → work (store_of m c) ≡ stop j → Refused 9 j) → {m₁ m' : Lent} {l' : List ℕ} {r₁ r : Out A} → Working work m m₁ c r₁ → Undone m₁ m' c.terms r₁ r → PublicList (list_call l fit work m c) m m' l l' c r
      listed-works g stops w u = record {
        store = listed (call_undone fit work m c k v z b e (not-false b g) stops w u);
        idle = λ j q i. absurd (work_writes (stops j (w.says ∙ sym (undone-is u) ∙ q)) i);
      }
