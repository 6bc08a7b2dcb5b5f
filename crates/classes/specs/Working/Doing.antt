-- What the working forms of joining, setting a mark and going back require and promise: one shape for the three.
use Rattle.std.specs.Prelude.{◌≡◌, true, List, ℕ}
use Rattle.records.specs.declared.State.{State}
use Rattle.records.specs.Store.{Store}
use Rattle.records.specs.View.{Lent, store_of}
use Rattle.records.specs.Working.Audited.{Ready}
use Rattle.classes.specs.declared.Standing.{Standing}
use Rattle.classes.specs.Joins.{Linked}
use Rattle.classes.specs.Marks.{Trail, trail_of, marks_rule}
use Rattle.classes.specs.Calls.{Outcome, gives, join_terms, Leaves}
use Rattle.classes.specs.Working.Carries.{TrailSized}

-- lent slices and words lent for marks that pass the audit of both: what a working form over them requires
pub record ReadyMarks (m : Lent) (l : List ℕ) (c : State) (d : Standing) : Type 0 where
  pub ready : Ready m c
  pub trail : TrailSized l d
  pub marked : marks_rule (store_of m c) (trail_of l d) ≡ true

-- a working form answers the number n and the counts e, and does not refuse: this is what its definition gives, what is not counted stays, and
-- store and marks are ready for the next
pub record WorkingMarks (work : Store → Trail → Outcome) (m m' : Lent) (l l' : List ℕ) (c : State) (d : Standing) (n : ℕ) (e : Standing) : Type 0 where
  pub says : work (store_of m c) (trail_of l d) ≡ gives (store_of m' c) (trail_of l' e) n
  pub leaves : Leaves m m' l l' c e
  pub ready : ReadyMarks m' l' c e

-- joining, besides: terms of one class are left as they are, and any other join adds the edge asked for
pub record WorkingJoin (a b k v : ℕ) (m m' : Lent) (l l' : List ℕ) (c : State) (d : Standing) (n : ℕ) (e : Standing) : Type 0 where
  pub works : WorkingMarks (join_terms a b k v) m m' l l' c d n e
  pub same : n ≡ 0 → (m' ≡ m) × (l' ≡ l)
  pub linked : n ≡ 1 → Linked (store_of m c).terms (store_of m' c).terms a b k v
