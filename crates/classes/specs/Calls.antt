-- Document 02, Note 1: joining, setting a mark, going back to one, and what each call promises.
use Rattle.std.specs.Prelude.{◌≡◌, Bool, false, ◌&&◌, ◌||◌, List, ℕ, zero, suc, ◌-◌, length, get_or, take, ltb, leb, Result, Ok, Err, if◌then◌else◌}
use Rattle.std.proofs.Math.Option.{Option, none, some}
use Rattle.records.specs.declared.State.{State}
use Rattle.records.specs.declared.refusal.Refusal.{Refusal}
use Rattle.records.specs.Refusal.{number}
use Rattle.records.specs.Lists.{one_more}
use Rattle.records.specs.Store.{Term, Store, within, is_string, same_class}
use denote.Triple.Both.{Both}
use Rattle.records.specs.View.{Lent, Slice, store_of, term_at}
use Rattle.records.specs.Index.{SameIndex}
use Rattle.records.specs.Rules.{is_reason_kind, is_number}
use Rattle.records.specs.Make.{with_terms}
use Rattle.classes.specs.declared.Standing.{Standing}
use Rattle.classes.specs.Joins.{Trace, join_in, trace_of, Linked}
use Rattle.classes.specs.Marks.{Trail, trail_of, mark_limit, trace_place, table_at, audit_marks}

-- WHAT A CALL GIVES: the store, the trail and a number, or the number of its refusal

pub data Outcome : Type 0 where
  gives : Store → Trail → ℕ → Outcome
  refuses : ℕ → Outcome

-- 'joining two string terms under a reason'; 'A join's reason outside document 01's rule is refused under 5'
abbrev pub join_arguments : ℕ → ℕ → ℕ → ℕ → Store → Bool
join_arguments a b k v s = is_string s a && is_string s b && is_reason_kind k && is_number v

-- a join is recorded where a mark stands
abbrev pub recorded : Trace → Trail → Trail
recorded y x = if ltb 0 (length x.marks) then record { marks = x.marks; joins = one_more x.joins y } else x

-- 'Joining terms of one class changes nothing and reports it': 0, and 1 for any other join
unfoldable pub join_terms : ℕ → ℕ → ℕ → ℕ → Store → Trail → Outcome
join_terms a b k v s x =
    if join_arguments a b k v s
    then (if same_class s a b then gives s x 0 else gives (with_terms s (join_in s.terms a b k v)) (recorded (trace_of s.terms a) x) 1)
    else refuses 5

-- 'setting a mark'; 'At most 64 marks stand, numbered from 1 in the order set'; 10 'where .. a 65th is set'
unfoldable pub set_mark : Store → Trail → Outcome
set_mark s x =
    if ltb (length x.marks) mark_limit
    then gives s (record { marks = one_more x.marks (length x.joins); joins = x.joins }) (suc (length x.marks))
    else refuses 10

-- how many joins were recorded when mark i was set
abbrev pub joins_at : ℕ → Trail → ℕ
joins_at i x = get_or x.marks (i - 1) 0

-- marks below i are left, with the joins recorded up to it
abbrev pub before : ℕ → Trail → Trail
before i x = record { marks = take (i - 1) x.marks; joins = take (joins_at i x) x.joins }

abbrev pub gone : ℕ → Store → Trail → Option (List Term) → Outcome
gone i s x none = refuses 3
gone i s x (some ts) = gives (with_terms s ts) (before i x) i

-- 'going back to a mark, which uses up that mark and later ones'; 10 'where the mark named isn't standing'
unfoldable pub go_back : ℕ → Store → Trail → Outcome
go_back i s x = if within (length x.marks) i then gone i s x (table_at (joins_at i x) x s.terms) else refuses 10

-- WHAT THE CALLS PROMISE

abbrev pub unless : ℕ → Outcome → Outcome
unless zero o = o
unless (suc k) o = refuses (suc k)

-- a public call: refusals 1 to 4 and 12 by the audit of store and marks, else its work
unfoldable pub tracked : (Store → Trail → Outcome) → Lent → List ℕ → State → Standing → Outcome
tracked work m l c d = unless (audit_marks m l c d) (work (store_of m c) (trail_of l d))

-- the answer of a call, read in the words at exit
abbrev pub answered : Result (ℕ × Standing) Refusal → Lent → List ℕ → State → Outcome
answered (Ok x) m l c = gives (store_of m c) (trail_of l x.1) x.0
answered (Err k) m l c = refuses (number k)

-- a word lent for marks that is counted
abbrev pub is_counted : Standing → ℕ → Bool
is_counted d i = ltb i d.marks || (leb mark_limit i && ltb i (trace_place d.joins 0))

-- terms and words that are not counted stay as they are, and so do heads and ninth words: document 02, Note 9, 'Going back leaves heads and
-- ninth words as they are'
pub record Leaves (m m' : Lent) (l l' : List ℕ) (c : State) (e : Standing) : Type 0 where
  pub terms : (t : ℕ) → within c.terms t ≡ false → term_at m'.terms t ≡ term_at m.terms t
  pub terms_long : length m'.terms ≡ length m.terms
  pub index : (n : ℕ) → SameIndex m.terms m'.terms n
  pub words : (i : ℕ) → is_counted e i ≡ false → get_or l' i 0 ≡ get_or l i 0
  pub long : length l' ≡ length l

-- a call's promise names the words lent for marks beside the store's, at entry and at exit
abbrev pub Marked : {B : Type 1} → (Lent → Lent → List ℕ → List ℕ → B) → Both Lent Lent → Slice → B
Marked P x l = P x.entry x.exit l.entry.now l.exit.now

-- its answer, that a refusal writes nothing, what it leaves alone, and that store and marks pass the audit again
pub record Tracks (work : Store → Trail → Outcome) (m m' : Lent) (l l' : List ℕ) (c : State) (d : Standing) (r : Result (ℕ × Standing) Refusal) : Type 0 where
  pub says : answered r m' l' c ≡ tracked work m l c d
  pub idle : (k : Refusal) → r ≡ Err k → (m' ≡ m) × (l' ≡ l)
  pub leaves : (n : ℕ) (e : Standing) → r ≡ Ok (n, e) → Leaves m m' l l' c e
  pub audited : (n : ℕ) (e : Standing) → r ≡ Ok (n, e) → audit_marks m' l' c e ≡ 0

-- joining, besides: terms of one class are left as they are, and any other join adds the edge asked for
pub record PublicJoin (a b k v : ℕ) (m m' : Lent) (l l' : List ℕ) (c : State) (d : Standing) (r : Result (ℕ × Standing) Refusal) : Type 0 where
  pub tracks : Tracks (join_terms a b k v) m m' l l' c d r
  pub same : (e : Standing) → r ≡ Ok (0, e) → (m' ≡ m) × (l' ≡ l)
  pub linked : (e : Standing) → r ≡ Ok (1, e) → Linked (store_of m c).terms (store_of m' c).terms a b k v
