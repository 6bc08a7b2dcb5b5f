-- The three ways of a public call: the audit refuses, an argument is wrong, or the work is done; and a refusal of the work, after which the
-- index is cut.
use Rattle.std.specs.Prelude.{Result, Err, is_err, IsErrAnd, if◌then◌else◌}
use Rattle.std.proofs.lemmas.Result.{err_from_is_err_and}
use mathlib.Core.Path.{◌≡◌, refl, sym, ap, subst, ◌∙◌}
use mathlib.Core.Bool.{Bool, true, false}
use mathlib.Core.List.{List}
use mathlib.Core.Logic.{inl, inr}
use Prim.Native.Nat.{ℕ, zero, suc, ◌≤◌}
use native.Mathlib.Omega.{arith}
use lib.ListN.{length}
use Rattle.records.specs.declared.State.{State}
use Rattle.records.specs.declared.refusal.Refusal.{Refusal}
use Rattle.records.specs.declared.refusal.Refusal.TheVariants.{Sizes, Records, Classes, Congruences, Argument, Reasons, Room, Names, Mark, Form, Index}
use Rattle.records.specs.declared.refusal.Refusal.TheVariants as refusal
use Rattle.records.specs.Refusal.{number}
use Rattle.records.specs.Store.{Store, Out, ok, stop, Work}
use Rattle.records.specs.View.{Lent, store_of, term_at, term_limit, term_words, sizes}
use Rattle.records.specs.Index.{bucket, index_rule, SameIndex}
use Rattle.records.specs.Rules.{records_rule, classes_rule, congruences_rule, audit_store, audit_index, first_due, audit}
use Rattle.records.specs.Calls.{KeepsStore, writes_nothing, call, checked, unless, Public}
use Rattle.records.specs.Working.Audited.{Ready}
use Rattle.records.specs.Working.Indexing.{Cut}
use Rattle.records.specs.Working.Doing.{Keeps, Working, CutRefused}
use Rattle.records.proofs.Lists.{clash, table_same}
use Rattle.records.proofs.Works.{stop-not}
use Rattle.records.proofs.Outcomes.{Refused}
use Rattle.records.proofs.IndexLaws.{same_none, cut_back}
use Rattle.records.proofs.Passed.{ready_of, audit-of}
use Rattle.records.proofs.Doing.{ready-index}

-- a refusal has a number
pub numbered : (e : Refusal) → number e ≡ 0 → ⊥
numbered Sizes q = absurd (omega arith)
numbered Records q = absurd (omega arith)
numbered Classes q = absurd (omega arith)
numbered Congruences q = absurd (omega arith)
numbered Argument q = absurd (omega arith)
numbered refusal.List q = absurd (omega arith)
numbered Reasons q = absurd (omega arith)
numbered Room q = absurd (omega arith)
numbered Names q = absurd (omega arith)
numbered Mark q = absurd (omega arith)
numbered Form q = absurd (omega arith)
numbered Index q = absurd (omega arith)

-- where the audit passes, what the work requires holds
pub passed-ready : (m : Lent) (c : State) (k : ℕ) → k ≡ audit m c → k ≡ 0 → Ready m c
passed-ready m c k verdict ready = ready_of m c (sym verdict ∙ ready)

-- REFUSALS

-- the refusals of work are not among those that write nothing
pub work_writes : {j : ℕ} → Refused 9 j → writes_nothing j → ⊥
work_writes p (inl h) = let a = p.from in omega arith
work_writes p (inr h) = let a = p.to in omega arith

-- the audit's refusals write nothing
pub audit-idle : (m : Lent) (c : State) (k : ℕ) → k ≡ audit m c → writes_nothing k
unfolding audit audit_store audit_index
audit-idle m c k e =
    subst writes_nothing (sym e)
    (go (sizes m c) (records_rule (store_of m c)) (classes_rule (store_of m c)) (congruences_rule (store_of m c)) (index_rule m.terms (store_of m c)))
  where
    go : (a b d e i : Bool) → writes_nothing (if a then first_due (if b then (if d then (if e then 0 else 4) else 3) else 2) (if i then 0 else 12) else 1)
    go false b d e i = inl (omega arith)
    go true false d e i = inl (omega arith)
    go true true false e i = inl (omega arith)
    go true true true false i = inl (omega arith)
    go true true true true false = inr (omega arith)
    go true true true true true = inl (omega arith)

-- AFTER THE WORK

-- the other four slices are as they were
pub record SameOthers (m m' : Lent) : Type 0 where
  pub cells : m'.cells ≡ m.cells
  pub chars : m'.chars ≡ m.chars
  pub reasons : m'.reasons ≡ m.reasons
  pub keys : m'.keys ≡ m.keys

-- the answer r₁ of work that left m₁ is handed on as r with m': as it is, or, where it is a refusal, with the index of n terms cut
pub data Undone {A : Type 0} (m₁ m' : Lent) (n : ℕ) (r₁ r : Out A) : Type 0 where
  given : (s : Store) (a : A) → r₁ ≡ ok s a → r ≡ r₁ → m' ≡ m₁ → Undone m₁ m' n r₁ r
  cut : (k : ℕ) → r₁ ≡ stop k → r ≡ r₁ → Cut m₁.terms m'.terms n → SameOthers m₁ m' → Undone m₁ m' n r₁ r

-- an answer handed on as it is, and a refusal after a cut
module _ {A : Type 0} (n : ℕ) (x : Result A Refusal) where
  pub handed_on : (l : List ℕ) → is_err x ≡ false → CutRefused l l n x x
  handed_on l q = record { same = refl; given = λ p. refl; refused = λ p. clash p q }

  pub handed_cut : (l l' : List ℕ) → is_err x ≡ true → Cut l l' n → CutRefused l l' n x x
  handed_cut l l' q c = record { same = refl; given = λ p. clash q p; refused = λ p. c }

-- what a cut asks, of words that are as long as those of entry
pub cut-asked : {m : Lent} {c : State} → Ready m c → {k : ℕ} → k ≡ length m.terms → (c.terms ≤ term_limit) × (term_words c.terms ≤ k)
cut-asked r e = let z = r.sized.term_room in (r.sized.term_limited, omega arith)

-- a cut leaves every record
pub cut-store : {m m' : Lent} {n : ℕ} (c : State) → Cut m.terms m'.terms n → SameOthers m m' → store_of m' c ≡ store_of m c
cut-store {m} {m'} c k o =
    let t = table_same (λ i. term_at m'.terms (suc i)) (λ i. term_at m.terms (suc i)) c.terms (λ i h. k.terms (suc i)) in
    rw (t, k.long, k.zero, o.cells, o.chars, o.reasons, o.keys)

pub undone-is : {A : Type 0} {m₁ m' : Lent} {n : ℕ} {r₁ r : Out A} → Undone m₁ m' n r₁ r → r ≡ r₁
undone-is (given s a e q i) = q
undone-is (cut n e q k o) = q

module _ {A : Type 0} {m m₁ m' : Lent} {c : State} {r₁ r : Out A} where
  undone-kept : Keeps m m₁ c → Undone m₁ m' c.terms r₁ r → KeepsStore m m' c
  undone-kept w (given s a e q i) = rw i w.store
  undone-kept w (cut j e q k o) = cut-store c k o ∙ w.store

  undone-back : Ready m c → Keeps m m₁ c → Undone m₁ m' c.terms r₁ r → (j : ℕ) → r ≡ stop j → SameIndex m.terms m'.terms c.terms
  undone-back d w (given s a e q i) j h = stop-not (sym h ∙ q ∙ e)
  undone-back d w (cut n e q k o) j h =
      cut_back (bucket (store_of m c)) c.terms m.terms (ready-index d) m₁.terms m'.terms w.index k

pub undone-passes : {A : Type 0} {m₁ m' : Lent} {n : ℕ} {r₁ r : Out A} → Undone m₁ m' n r₁ r → ((d : State) (a : A) → r₁ ≡ ok (store_of m₁ d) a → Ready m₁ d) → (d : State) (a : A) → r ≡ ok (store_of m' d) a → audit m' d ≡ 0
undone-passes {m₁ = m₁} (given s b e q i) f d a h =
    subst (λ (x : Lent). audit x d ≡ 0) (sym i) (audit-of m₁ d (f d a (sym q ∙ h ∙ ap (λ (x : Lent). ok (store_of x d) a) i)))
undone-passes (cut n e q k o) f d a h = stop-not (sym e ∙ sym q ∙ h)

-- THE WAYS

module _ {A : Type 0} (fit : Store → Bool) (work : Work A) (m : Lent) (c : State) (k : ℕ) (verdict : k ≡ audit m c) where
  pub call_unready : (k ≡ 0 → ⊥) → Public (call fit work m c) m m c (stop k)
  unfolding call
  call_unready d = record { says = go k verdict d; idle = λ j e l. refl; kept = refl; back = λ j e. same_none m.terms c.terms; passes = λ d a q. stop-not q }
    where
      go : (j : ℕ) → j ≡ audit m c → (j ≡ 0 → ⊥) → stop j ≡ unless (audit m c) (checked (fit (store_of m c)) work (store_of m c))
      go zero e d = absurd (d refl)
      go (suc j) e d = rw (← e)

  module _ (ready : k ≡ 0) where
    pub call-unfit : (b : Bool) → b ≡ fit (store_of m c) → b ≡ false → Public (call fit work m c) m m c (stop 5)
    unfolding call
    call-unfit b e f =
        let a : audit m c ≡ 0 = sym verdict ∙ ready in
        let g : fit (store_of m c) ≡ false = sym e ∙ f in
        record { says = rw (a, g); idle = λ j e l. refl; kept = refl; back = λ j e. same_none m.terms c.terms; passes = λ d x q. stop-not q }

    module _ (b : Bool) (e : b ≡ fit (store_of m c)) (f : b ≡ true) where
      worked : {r : Out A} → work (store_of m c) ≡ r → r ≡ call fit work m c
      unfolding call
      worked w = let a : audit m c ≡ 0 = sym verdict ∙ ready in let g : fit (store_of m c) ≡ true = sym e ∙ f in rw (a, g) (sym w)

      -- no word is written
      pub call_still : {r : Out A} → Working work m m c r → Public (call fit work m c) m m c r
      call_still w = record {
        says = worked w.says;
        idle = λ j h l. refl;
        kept = refl;
        back = λ j h. same_none m.terms c.terms;
        passes = λ d x q. audit-of m d (w.ready d x q);
      }

      -- no word of terms is written
      pub call_works : ((j : ℕ) → work (store_of m c) ≡ stop j → Refused 9 j) → {m' : Lent} {r : Out A} → m'.terms ≡ m.terms → Working work m m' c r → Public (call fit work m c) m m' c r
      call_works stops {m'} t w = record {
        says = worked w.says;
        idle = λ j h l. absurd (work_writes (stops j (w.says ∙ h)) l);
        kept = w.kept.store;
        back = λ j h. subst (λ (l : List ℕ). SameIndex m.terms l c.terms) (sym t) (same_none m.terms c.terms);
        passes = λ d x q. audit-of m' d (w.ready d x q);
      }

      -- words of terms are written, and after a refusal the index is cut
      pub call_undone : ((j : ℕ) → work (store_of m c) ≡ stop j → Refused 9 j) → {m₁ m' : Lent} {r₁ r : Out A} → Working work m m₁ c r₁ → Undone m₁ m' c.terms r₁ r → Public (call fit work m c) m m' c r
      call_undone stops w u = record {
        says = undone-is u ∙ worked w.says;
        idle = λ j h l. absurd (work_writes (stops j (w.says ∙ sym (undone-is u) ∙ h)) l);
        kept = undone-kept w.kept u;
        back = undone-back (passed-ready m c k verdict ready) w.kept u;
        passes = undone-passes u w.ready;
      }

-- the same of what the audit answers as a Result: a refusal is handed on
pub call_refused : {A : Type 0} (fit : Store → Bool) (work : Work A) (m : Lent) (c : State) (e : Refusal) → number e ≡ audit m c → Public (call fit work m c) m m c (stop (number e))
call_refused fit work m c e verdict = call_unready fit work m c (number e) verdict (numbered e)

-- what the exit of a `?` returns: the refusal that was met
pub handed : {A : Type 0} {e : Refusal} (r : Result A Refusal) → IsErrAnd r (λ x. x ≡ e) → r ≡ Err e
handed r h = let p = err_from_is_err_and r h in p.1 ∙ ap Err p.2
