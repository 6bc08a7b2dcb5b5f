-- What holds after each call of a list, whatever of the division into classes is asked, so long as joining and growing keep it.
use mathlib.Core.Path.{◌≡◌, sym, ap, subst, ◌∙◌}
use mathlib.Core.Bool.{true}
use mathlib.Core.List.{List, [], ◌∷◌, ◌++◌}
use mathlib.Core.Option.{some}
use Prim.Native.Nat.{ℕ, suc, ◌-◌, ◌≤◌, ◌<◌}
use native.Mathlib.Decide.{dec_le}
use native.Mathlib.Omega.{arith}
use lib.ListN.{length, get_or, take, drop, length-append, length-take, get_or-append}
use lib.Seq.{drop-length, drop-append-le, get_or-append_seam, get_or-take}
use lib.Dec.{ltb}
use borrow.Author.Tests.{ltb-true, ltb-false}
use Rattle.records.specs.Lists.{one_more}
use Rattle.records.specs.Store.{Term, Room, Store, within}
use Rattle.records.specs.View.{term_limit}
use Rattle.records.specs.Make.{with_terms}
use Rattle.records.specs.Working.Audited.{Audited}
use Rattle.records.proofs.Lists.{decide, every_at, within_low, within-high, within-is}
use Rattle.records.proofs.Grown.{string-term}
use Rattle.records.proofs.LaterStores.{Extended}
use Rattle.classes.specs.Joins.{Trace, join_in, trace_of, undo_in}
use Rattle.classes.specs.Marks.{Trail, mark_limit, join_limit, undo_all, table_at, marks_rule}
use Rattle.classes.specs.Calls.{Outcome, recorded, join_terms, set_mark, joins_at, before, go_back}
use Rattle.classes.specs.Working.Carries.{Forest}
use Rattle.classes.proofs.Alike.{Like, like-none}
use Rattle.classes.proofs.Undoing.{classed-forest, undo-join}
use Rattle.classes.proofs.Undone.{undo-last, undone-stays}
use Rattle.classes.proofs.Enough.{joins_fit_lem}
use Rattle.classes.proofs.JoinKept.{Joinable, join_kept}
use Rattle.classes.proofs.Marking.{rule_more, rule_join, rule_mark, n-low, counts-before, table_before, counts-low, Back, rule_back}
use Rattle.classes.proofs.Tracking.{back-goes, Joining, wrong, together, joins, Marking, full, marks, marking}
use Rattle.classes.proofs.Tracking as tracking
use Rattle.classes.proofs.MarksLater.{since, more-terms, undo_all-more, alone-each, marks-later}
use Rattle.history.specs.History.{Event, joined, marked, World, cut_at, joining, moved, marked_at, standing}
use Rattle.history.proofs.Appended.{Appended, nothing, one_appended}
use Rattle.history.proofs.Events.{marks_in, marks-join, marks_mark, stands-join, stands_mark, cut_early, marked_early, cut-last, marked-last, marks-cut, marked-cut, cut-cut}

-- what joining and growing keep of a store and the pairs joined
pub record Dividing (D : Store → List (ℕ × ℕ) → Type 0) : Type 0 where
  pub grows : (s s' : Store) (us : List Term) (l : List (ℕ × ℕ)) → Audited (with_terms s us) → Like s.terms us → Extended s s' → D (with_terms s us) l → D (with_terms s' (us ++ since s s')) l
  pub joined : (s : Store) (a b k v : ℕ) (l : List (ℕ × ℕ)) → Audited s → Joinable s a b k v → D s l → D (with_terms s (join_in s.terms a b k v)) (one_more l (a, b))

-- of a mark that stands: the table that it was set at, the one that going back leads to, and that terms were appended alone between the two
pub record At (D : Store → List (ℕ × ℕ) → Type 0) (w : World) (i : ℕ) : Type 0 where
  pub at : List Term
  pub was : marked_at i w.history ≡ some at
  pub table : List Term
  pub is : table_at (joins_at i w.trail) w.trail w.store.terms ≡ some table
  pub appended : Appended at table
  pub divided : D (with_terms w.store table) (standing (cut_at i w.history))

pub record Holds (D : Store → List (ℕ × ℕ) → Type 0) (w : World) : Type 0 where
  pub audited : Audited w.store
  pub marked : marks_rule w.store w.trail ≡ true
  pub limit : w.store.room.terms ≤ term_limit
  pub marks_fit : length w.trail.marks ≤ mark_limit
  pub joins_fit : length w.trail.joins ≤ join_limit
  pub counts : marks_in w.history ≡ length w.trail.marks
  pub each : (i : ℕ) → within (length w.trail.marks) i ≡ true → At D w i
  pub divided : D w.store (standing w.history)

some_is : {ts us : List Term} → some ts ≡ some us → ts ≡ us
some_is e = cc

module _ {D : Store → List (ℕ × ℕ) → Type 0} (keep : Dividing D) (w : World) (h : Holds D w) where
  abbrev s : Store
  s = w.store

  abbrev x : Trail
  x = w.trail

  abbrev past : List Event
  past = w.history

  forest : Forest s.terms
  forest = classed-forest s h.audited.classed

  -- THE TABLE OF A MARK

  module _ (i : ℕ) (q : within (length x.marks) i ≡ true) where
    abbrev there : At D w i
    there = h.each i q

    low : 0 < i
    low = within_low _ i q

    high : i ≤ marks_in past
    high = let l = within-high _ i q in let e = h.counts in omega arith

    pub at-like : Like s.terms there.table
    at-like = (undone-stays (drop (joins_at i x) x.joins) s.terms there.table forest there.is).like

    abbrev back : Back s x i
    back = rule_back s x h.marked i q h.audited

    same_table_lem : back.table ≡ there.table
    same_table_lem = some_is (sym back.is ∙ there.is)

    pub at-audited : Audited (with_terms s there.table)
    at-audited = subst (λ (ts : List Term). Audited (with_terms s ts)) same_table_lem back.audited

    at-marked : marks_rule (with_terms s there.table) (before i x) ≡ true
    at-marked = subst (λ (ts : List Term). marks_rule (with_terms s ts) (before i x) ≡ true) same_table_lem back.marks

  -- GROWING

  module _ (s' : Store) (grew : Extended s s') (audited' : Audited s') (room : s'.room ≡ s.room) where
    at-later : (i : ℕ) → within (length x.marks) i ≡ true → At D (record { store = s'; trail = x; history = past }) i
    at-later i q =
        let a = there i q in
        let m = more-terms grew in
        record {
          at = a.at;
          was = a.was;
          table = a.table ++ since s s';
          is = ap (table_at (joins_at i x) x) m.terms ∙ undo_all-more (drop (joins_at i x) x.joins) s.terms a.table (since s s') forest a.is;
          appended = alone-each (Appended a.at) (λ us k b c p. one_appended k b c p) m.alone a.table (ap suc (at-like i q).long) a.appended;
          divided = keep.grows s s' a.table _ (at-audited i q) (at-like i q) grew a.divided;
        }

    pub holds_later : Holds D (record { store = s'; trail = x; history = past })
    holds_later = record {
      audited = audited';
      marked = marks-later x h.audited h.marked grew;
      limit = subst (λ (r : Room). r.terms ≤ term_limit) (sym room) h.limit;
      marks_fit = h.marks_fit;
      joins_fit = h.joins_fit;
      counts = h.counts;
      each = at-later;
      divided = subst (λ (ts : List Term). D (with_terms s' ts) (standing past)) (sym (more-terms grew).terms)
          (keep.grows s s' s.terms _ h.audited (like-none s.terms) grew h.divided);
    }

  -- JOINING

  module _ (a b k v : ℕ) (j : Joinable s a b k v) where
    abbrev ts : List Term
    ts = join_in s.terms a b k v

    undo : undo_in ts (trace_of s.terms a) ≡ some s.terms
    undo = undo-join s h.audited.classed a b k v (string-term s a j.one) j.apart

    few : length x.joins < join_limit
    few = joins_fit_lem s x h.audited h.marked (let l = h.audited.roomy.terms in let r = h.limit in omega arith) a b (string-term s a j.one) (string-term s b j.other) j.apart

    abbrev more : Trail
    more = record { marks = x.marks; joins = one_more x.joins (trace_of s.terms a) }

    at_joined : (i : ℕ) → within (length x.marks) i ≡ true → At D (record { store = with_terms s ts; trail = more; history = one_more past (joined a b) }) i
    at_joined i q =
        let y = there i q in
        record {
          at = y.at;
          was = marked_early i past (joined a b ∷ []) (low i q) (high i q) ∙ y.was;
          table = y.table;
          is = ap (λ (l : List Trace). undo_all l ts) (drop-append-le (joins_at i x) x.joins (trace_of s.terms a ∷ []) (n-low s x h.marked i q))
              ∙ undo-last (drop (joins_at i x) x.joins) (trace_of s.terms a) ts s.terms undo ∙ y.is;
          appended = y.appended;
          divided = subst (λ (e : List Event). D (with_terms s y.table) (standing e)) (sym (cut_early i past (joined a b ∷ []) (low i q) (high i q))) y.divided;
        }

    joined_divided : D (with_terms s ts) (standing (one_more past (joined a b)))
    joined_divided = subst (D (with_terms s ts)) (sym (stands-join past a b)) (keep.joined s a b k v (standing past) h.audited j h.divided)

    holds_joined : Holds D (record { store = with_terms s ts; trail = recorded (trace_of s.terms a) x; history = one_more past (joined a b) })
    holds_joined = decide (ltb 0 (length x.marks))
        (λ e. rw e (record {
          audited = join_kept s a b k v h.audited j;
          marked = rule_more s ts (trace_of s.terms a) x undo h.marked (ltb-true 0 _ e);
          limit = h.limit;
          marks_fit = h.marks_fit;
          joins_fit = (let l = few in let n = length-append x.joins (trace_of s.terms a ∷ []) in omega arith);
          counts = marks-join past a b ∙ h.counts;
          each = at_joined;
          divided = joined_divided;
        }))
        (λ e. let z = ltb-false 0 (length x.marks) e in let r = rule_join s x a b k v h.audited j h.marked in rw e (record {
          audited = join_kept s a b k v h.audited j;
          marked = rw e at r;
          limit = h.limit;
          marks_fit = h.marks_fit;
          joins_fit = h.joins_fit;
          counts = marks-join past a b ∙ h.counts;
          each = λ i q. let l = within_low _ i q in let u = within-high _ i q in absurd (omega arith);
          divided = joined_divided;
        }))

  pub holds_join : (a b k v : ℕ) → Holds D (moved w (joining a b past) (join_terms a b k v s x))
  holds_join a b k v = go (tracking.joining a b k v s x)
    where
      go : {o : Outcome} → Joining a b k v s x o → Holds D (moved w (joining a b past) o)
      go wrong = h
      go (together e) = h
      go (joins j) = holds_joined a b k v j

  -- MARKS

  none_undone : table_at (length x.joins) x s.terms ≡ some s.terms
  unfolding undo_all
  none_undone = ap (λ (k : List Trace). undo_all k s.terms) (drop-length x.joins)

  module _ (l : length x.marks < mark_limit) where
    abbrev one : Trail
    one = record { marks = one_more x.marks (length x.joins); joins = x.joins }

    abbrev here : Event
    here = marked (some s.terms)

    at_marked_now : (i : ℕ) → within (length one.marks) i ≡ true → At D (record { store = s; trail = one; history = one_more past here }) i
    at_marked_now i q = go (dec_le i (length x.marks))
      where
        go : Dec (i ≤ length x.marks) → At D (record { store = s; trail = one; history = one_more past here }) i
        go (yes u) =
            let p = within-is (length x.marks) i (within_low _ i q) u in
            let y = there i p in
            record {
              at = y.at;
              was = marked_early i past (here ∷ []) (low i p) (high i p) ∙ y.was;
              table = y.table;
              is = ap (λ (n : ℕ). table_at n x s.terms) (get_or-append x.marks (length x.joins ∷ []) 0 (i - 1) (let z = low i p in omega arith)) ∙ y.is;
              appended = y.appended;
              divided = subst (λ (e : List Event). D (with_terms s y.table) (standing e)) (sym (cut_early i past (here ∷ []) (low i p) (high i p))) y.divided;
            }
        go (no u) =
            let a = within-high _ i q in
            let n = length-append x.marks (length x.joins ∷ []) in
            let c = h.counts in
            let e : suc (marks_in past) ≡ i = omega arith in
            let f : length x.marks ≡ i - 1 = omega arith in
            record {
              at = s.terms;
              was = ap (λ (k : ℕ). marked_at k (one_more past here)) (sym e) ∙ marked-last past (some s.terms);
              table = s.terms;
              is = ap (λ (k : ℕ). table_at k x s.terms) (ap (λ (k : ℕ). get_or (one_more x.marks (length x.joins)) k 0) (sym f) ∙ get_or-append_seam x.marks (length x.joins) [] 0) ∙ none_undone;
              appended = nothing;
              divided = subst (λ (e : List Event). D s (standing e)) (sym (ap (λ (k : ℕ). cut_at k (one_more past here)) (sym e) ∙ cut-last past (some s.terms))) h.divided;
            }

    holds_marked : Holds D (record { store = s; trail = one; history = one_more past here })
    holds_marked = record {
      audited = h.audited;
      marked = rule_mark s x h.audited h.marked;
      limit = h.limit;
      marks_fit = (let e = length-append x.marks (length x.joins ∷ []) in omega arith);
      joins_fit = h.joins_fit;
      counts = marks_mark past (some s.terms) ∙ (let e = length-append x.marks (length x.joins ∷ []) in let c = h.counts in omega arith);
      each = at_marked_now;
      divided = subst (D s) (sym (stands_mark past (some s.terms))) h.divided;
    }

  pub holds_mark : Holds D (moved w (λ n. one_more past (marked (some s.terms))) (set_mark s x))
  holds_mark = go (marking s x)
    where
      go : {o : Outcome} → Marking s x o → Holds D (moved w (λ n. one_more past (marked (some s.terms))) o)
      go full = h
      go (marks l) = holds_marked l

  -- GOING BACK

  module _ (i : ℕ) (q : within (length x.marks) i ≡ true) where
    abbrev ys : List Term
    ys = (there i q).table

    fewer : length (take (i - 1) x.marks) ≡ i - 1
    fewer = let e = length-take (i - 1) x.marks in let a = within_low _ i q in let b = within-high _ i q in omega arith

    at_back : (j : ℕ) → within (length (before i x).marks) j ≡ true → At D (record { store = with_terms s ys; trail = before i x; history = cut_at i past }) j
    at_back j p =
        let a = within_low _ j p in
        let b = within-high _ j p in
        let c = fewer in
        let u = within-high _ i q in
        let r = within-is (length x.marks) j a (omega arith) in
        let y = there j r in
        let n : joins_at j (before i x) ≤ joins_at i x = every_at (take (i - 1) x.marks) (j - 1) 0 (counts-low (joins_at i x) (take (i - 1) x.marks) (counts-before s x h.marked i q)) (omega arith) in
        let e : joins_at j (before i x) ≡ joins_at j x = get_or-take (i - 1) x.marks (j - 1) 0 (omega arith) in
        record {
          at = y.at;
          was = marked-cut i j past a (omega arith) ∙ y.was;
          table = y.table;
          is = table_before s x h.marked i q ys (there i q).is (joins_at j (before i x)) n ∙ ap (λ (k : ℕ). table_at k x s.terms) e ∙ y.is;
          appended = y.appended;
          divided = subst (λ (e : List Event). D (with_terms s y.table) (standing e)) (sym (cut-cut i j past a (omega arith))) y.divided;
        }

    holds_gone : Holds D (record { store = with_terms s ys; trail = before i x; history = cut_at i past })
    holds_gone = record {
      audited = at-audited i q;
      marked = at-marked i q;
      limit = h.limit;
      marks_fit = (let e = fewer in let a = within-high _ i q in let l = h.marks_fit in omega arith);
      joins_fit = (let e = length-take (joins_at i x) x.joins in let l = h.joins_fit in omega arith);
      counts = marks-cut i past (low i q) (high i q) ∙ sym fewer;
      each = at_back;
      divided = (there i q).divided;
    }

  pub holds_back : (i : ℕ) → Holds D (moved w (λ n. cut_at i past) (go_back i s x))
  unfolding go_back
  holds_back i = decide (within (length x.marks) i)
      (λ q. subst (λ (o : Outcome). Holds D (moved w (λ n. cut_at i past) o)) (sym (back-goes i s x _ q (there i q).is)) (holds_gone i q))
      (λ q. rw q h)
