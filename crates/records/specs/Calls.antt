-- What every public call promises, in one shape.
use Rattle.std.specs.Prelude.{◌≡◌, Bool, List, ◌⊎◌, ℕ, zero, suc, ◌≤◌, Result, Ok, Err, if◌then◌else◌}
use denote.Triple.Both.{Both}
use Rattle.records.specs.declared.State.{State}
use Rattle.records.specs.declared.refusal.Refusal.{Refusal}
use Rattle.records.specs.Refusal.{number}
use Rattle.records.specs.Store.{Store, Out, ok, stop, Work}
use Rattle.records.specs.View.{Lent, store_of}
use Rattle.records.specs.View.{Slice}
use Rattle.records.specs.Index.{SameIndex}
use Rattle.records.specs.Rules.{audit}

-- what was counted is as it was: 'records below those counts keep their contents'
abbrev pub KeepsStore : Lent → Lent → State → Type 0
KeepsStore m m' c = store_of m' c ≡ store_of m c

-- 'Refusals 1 to 5 write nothing', and document 02's 'added from here on write nothing': those are 10 and above
abbrev pub writes_nothing : ℕ → Type 0
writes_nothing k = (k ≤ 5) ⊎ (10 ≤ k)

-- once the arguments pass, refusal 7 alone is given
abbrev pub full_alone : ℕ → Type 0
full_alone k = (writes_nothing k → ⊥) → k ≡ 7

-- what a public call answers: refusals 1 to 4 and 12 by the audit, 5 where an argument is wrong, else its work
module _ {A : Type 0} where
  abbrev pub unless : ℕ → Out A → Out A
  unless zero o = o
  unless (suc k) o = stop (suc k)

  abbrev pub checked : Bool → Work A → Work A
  checked fit work = if fit then work else (λ s. stop 5)

  unfoldable pub call : (Store → Bool) → Work A → Lent → State → Out A
  call fit work m c = unless (audit m c) (checked (fit (store_of m c)) work (store_of m c))

  -- what a public call promises: its answer, when it writes nothing, what it keeps, that after a refusal heads and counted ninth words are
  -- those of entry, and that what it leaves passes the audit: the words at exit with the counts d that it answers
  pub record Public (o : Out A) (m m' : Lent) (c : State) (r : Out A) : Type 0 where
    pub says : r ≡ o
    pub idle : (k : ℕ) → r ≡ stop k → writes_nothing k → m' ≡ m
    pub kept : KeepsStore m m' c
    pub back : (k : ℕ) → r ≡ stop k → SameIndex m.terms m'.terms c.terms
    pub passes : (d : State) (a : A) → r ≡ ok (store_of m' d) a → audit m' d ≡ 0

  -- THE WORDS OF CONTRACTS. Slices are passed by their names (View.antt, `across`), and an answer is read in the words at exit

  -- a public call, with the test of its arguments
  abbrev pub Answers : (Store → Bool) → Work A → Both Lent Lent → State → (Lent → Out A) → Type 0
  Answers fit work x c f = Public (call fit work x.entry c) x.entry x.exit c (f x.exit)

  -- a call that promises more, as PublicExplain
  abbrev pub Promises : (Lent → Lent → State → Out A → Type 0) → Both Lent Lent → State → (Lent → Out A) → Type 0
  Promises P x c f = P x.entry x.exit c (f x.exit)

  -- and writes a list
  abbrev pub Writes : (Lent → Lent → List ℕ → List ℕ → State → Out A → Type 0) → Both Lent Lent → Slice → State → (Lent → List ℕ → Out A) → Type 0
  Writes P x l c f = P x.entry x.exit l.entry.now l.exit.now c (f x.exit l.exit.now)

  -- an answer that a list is part of: `Does work (across ..) c (pushed r into list)`
  infixl 5 ◌into◌
  abbrev pub ◌into◌ : (Lent → List ℕ → Out A) → Slice → Lent → Out A
  ◌into◌ f l m = f m l.exit.now

-- the answer of a making call
abbrev pub made : Result (ℕ × State) Refusal → Lent → Out ℕ
made (Ok x) m = ok (store_of m x.1) x.0
made (Err e) m = stop (number e)

-- the answer of adding a reason or a key
abbrev pub added : Result State Refusal → Lent → Out (Unit {0})
added (Ok c) m = ok (store_of m c) tt
added (Err e) m = stop (number e)
