-- What every working function promises: one shape for all of them, and a smaller one for the parts of a make.
use Rattle.std.specs.Prelude.{◌≡◌, true, false, List, ℕ, ◌≤◌, take, Result, Ok, Err, is_err, IfOk}
use denote.Triple.Both.{Both}
use Rattle.records.specs.declared.State.{State}
use Rattle.records.specs.declared.Named.{Named}
use Rattle.records.specs.declared.refusal.Refusal.{Refusal}
use Rattle.records.specs.Refusal.{number}
use Rattle.records.specs.Store.{Out, ok, stop, Work}
use Rattle.records.specs.View.{Lent, store_of}
use Rattle.records.specs.Make.{take_name}
use Rattle.records.specs.Calls.{KeepsStore}
use Rattle.records.specs.Index.{Indexed}
use Rattle.records.specs.Working.Indexing.{SameBuckets, CutIndex, Cut}
use Rattle.records.specs.Working.Audited.{Ready}

-- what was counted is as it was, and so is the index of the counted terms, where a head or a ninth word that names a later term counts as 0
pub record Keeps (m m' : Lent) (c : State) : Type 0 where
  pub store : KeepsStore m m' c
  pub index : CutIndex m.terms m'.terms c.terms

module _ {A : Type 0} where
  -- the slices are ready for the counts of the answer: what the next working function requires
  abbrev pub ReadyFor : Lent → Out A → Type 0
  ReadyFor m r = (d : State) (a : A) → r ≡ ok (store_of m d) a → Ready m d

  -- a working function does what its definition says, keeps what was counted, and leaves what the next working function requires: the
  -- slices are ready for the counts that it answers
  pub record Working (work : Work A) (m m' : Lent) (c : State) (r : Out A) : Type 0 where
    pub says : work (store_of m c) ≡ r
    pub kept : Keeps m m' c
    pub ready : ReadyFor m' r

  -- a part of a make, which is asked nothing of what is made, so that of what it leaves no more can be said than that it is indexed, where
  -- the old terms keep their buckets
  pub record Building (work : Work A) (m m' : Lent) (c : State) (r : Out A) : Type 0 where
    pub says : work (store_of m c) ≡ r
    pub kept : Keeps m m' c
    pub indexed : (d : State) (a : A) → r ≡ ok (store_of m' d) a → SameBuckets (store_of m c) (store_of m' d) → Indexed m'.terms (store_of m' d)

  -- as contracts have them: `Does work (across ..) c (made r)`
  abbrev pub Does : Work A → Both Lent Lent → State → (Lent → Out A) → Type 0
  Does work x c f = Working work x.entry x.exit c (f x.exit)

  abbrev pub Builds : Work A → Both Lent Lent → State → (Lent → Out A) → Type 0
  Builds work x c f = Building work x.entry x.exit c (f x.exit)

-- the answer of taking a name
abbrev pub taken : Result Named Refusal → Lent → Out (List ℕ)
taken (Ok r) m = ok (store_of m r.state) (take r.len r.name)
taken (Err e) m = stop (number e)

-- no word is written, so the slices are ready for the counter past the name
pub record Taken (m : Lent) (c : State) (r : Result Named Refusal) : Type 0 where
  pub says : take_name (store_of m c) ≡ taken r m
  pub fits : IfOk r (λ n. n.len ≤ 15)
  pub ready : IfOk r (λ n. Ready m n.state)

-- an answer that is handed on: after a refusal the index of n terms is cut
pub record CutRefused {A : Type 0} (l l' : List ℕ) (n : ℕ) (r o : Result A Refusal) : Type 0 where
  pub same : o ≡ r
  pub given : is_err r ≡ false → l' ≡ l
  pub refused : is_err r ≡ true → Cut l l' n
