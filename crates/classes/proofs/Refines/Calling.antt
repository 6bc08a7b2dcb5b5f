-- Each way through the working forms of joining, setting a mark and going back.
use Rattle.std.specs.Prelude.{if◌then◌else◌}
use mathlib.Core.Path.{◌≡◌, refl, sym, ap, subst, ◌∙◌}
use mathlib.Core.Bool.{Bool, true, false, ◌&&◌}
use mathlib.Core.List.{List, [], ◌∷◌}
use mathlib.Core.Option.{Option, none, some}
use Prim.Native.Nat.{ℕ, suc, ◌-◌, ◌<◌, ◌≤◌}
use native.Mathlib.Omega.{arith}
use lib.ListN.{length, get_or, drop, take, length-append}
use lib.Dec.{ltb}
use borrow.Author.Tests.{eq-eqb, ne_eqb, lt-ltb}
use Rattle.records.specs.declared.State.{State}
use Rattle.records.specs.Lists.{table, one_more}
use Rattle.records.specs.Store.{Term, Store, count, within, is_string, root, root_in, top_in, class_up, forest_up}
use Rattle.records.specs.View.{Lent, lent, store_of, terms_view, zero_term}
use Rattle.records.specs.Index.{bucket}
use Rattle.records.specs.Rules.{is_reason_kind, is_number}
use Rattle.records.specs.Make.{with_terms}
use Rattle.records.specs.Working.Audited.{Closed}
use Rattle.records.proofs.Lists.{both_left, both_right, within_low, within-high, table-length, table_at_lem}
use Rattle.records.proofs.Climbs.{view_count, term-within}
use Rattle.records.proofs.Grown.{string-term}
use Rattle.records.proofs.IndexStores.{left-none, left_same, indexed-like}
use Rattle.records.proofs.Passed.{ready-after}
use Rattle.classes.specs.declared.Standing.{Standing}
use Rattle.classes.specs.Joins.{trace, trace_of, join_in, Linked}
use Rattle.classes.specs.Marks.{Trail, mark_limit, join_limit, trace_at, trail_of, undo_all, table_at}
use Rattle.classes.specs.Calls.{Outcome, gives, join_arguments, recorded, join_terms, set_mark, joins_at, before, go_back, Leaves}
use Rattle.classes.specs.Working.Carries.{TermsBecome, Tabled, Linkable, Undoes, undone, no_table, TrailSized, Trailed}
use Rattle.classes.specs.Working.Doing.{ReadyMarks, WorkingMarks, WorkingJoin}
use Rattle.classes.proofs.Alike.{Like, bucket-like}
use Rattle.classes.proofs.Undoing.{classed-forest}
use Rattle.classes.proofs.Undone.{undone-stays}
use Rattle.classes.proofs.JoinKept.{join-like, join-linked}
use Rattle.classes.proofs.Enough.{joins_fit_lem}
use Rattle.classes.proofs.Marking.{n-low, rule_back}
use Rattle.classes.proofs.Tracking.{joinable-of, Keeps, join-tracked, mark_tracked, back-tracked, back-goes}
use Rattle.classes.proofs.ReadyMarks.{marks_tracked}
use Rattle.classes.proofs.Refines.AuditMarks.{tabled-of}
use Rattle.classes.proofs.Refines.Counting.{take-table}

-- WHAT EACH LEAVES

-- store and marks pass again, by the definition's law
module _ (work : Store → Trail → Outcome) {t e h r ks t' l l' : List ℕ} {c : State} {d : Standing} (p : ReadyMarks (lent t e h r ks) l c d) {n : ℕ} {f : Standing} where
  works : Keeps (work (store_of (lent t e h r ks) c) (trail_of l d)) → TrailSized l' f → work (store_of (lent t e h r ks) c) (trail_of l d) ≡ gives (store_of (lent t' e h r ks) c) (trail_of l' f) n
      → ((u : ℕ) → bucket (store_of (lent t' e h r ks) c) u ≡ bucket (store_of (lent t e h r ks) c) u) → Leaves (lent t e h r ks) (lent t' e h r ks) l l' c f → WorkingMarks work (lent t e h r ks) (lent t' e h r ks) l l' c d n f
  works kept sized is same leaves =
      let k = kept.tracked _ _ n is in
      let s₀ = store_of (lent t e h r ks) c in
      let s₁ = store_of (lent t' e h r ks) c in
      let i = indexed-like s₀ s₁ t t' (view_count t' c.terms ∙ sym (view_count t c.terms)) same (leaves.index (count s₀)) p.ready.indexed in
      record { says = is; leaves = leaves; ready = record { ready = ready-after p.ready leaves.terms_long refl k.audited i; trail = sized; marked = k.marked } }

-- the store with another table
store-becomes : (t e h r ks t' : List ℕ) (c : State) (us : List Term) → TermsBecome t t' c.terms us → store_of (lent t' e h r ks) c ≡ with_terms (store_of (lent t e h r ks) c) us
unfolding zero_term within
store-becomes t e h r ks t' c us b = let p = b.is in let q = b.long in let z = b.away 0 refl in let y = b.index.nexts 0 in cc

becomes-like : (t e h r ks : List ℕ) (c : State) {t' : List ℕ} {us : List Term} → TermsBecome t t' c.terms us → Like (terms_view t c.terms) us
    → (u : ℕ) → bucket (store_of (lent t' e h r ks) c) u ≡ bucket (store_of (lent t e h r ks) c) u
becomes-like t e h r ks c {t'} {us} b l u =
    ap (λ (s : Store). bucket s u) (store-becomes t e h r ks t' c us b) ∙ bucket-like (store_of (lent t e h r ks) c) us l u

-- counts of a trail that is read off
trailed-sized : {l l' : List ℕ} {d f : Standing} {x : Trail} → TrailSized l d → trail_of l' f ≡ x → length l' ≡ length l → length x.marks ≤ mark_limit → length x.joins ≤ join_limit → TrailSized l' f
trailed-sized {l} {l'} {d} {f} {x} s e g a b = record {
  few_marks = (let p = sym (table-length (λ i. get_or l' i 0) f.marks) ∙ ap (λ (y : Trail). length y.marks) e in omega arith);
  few_joins = (let p = sym (table-length (trace_at l') f.joins) ∙ ap (λ (y : Trail). length y.joins) e in omega arith);
  room = (let p = s.room in omega arith);
}

-- JOINING

module _ {t e h r ks l : List ℕ} {c : State} {d : Standing} (p : ReadyMarks (lent t e h r ks) l c d) (a b k v : ℕ) (fit : join_arguments a b k v (store_of (lent t e h r ks) c) ≡ true) where
  abbrev m : Lent
  m = lent t e h r ks

  abbrev s : Store
  s = store_of m c

  abbrev ts : List Term
  ts = terms_view t c.terms

  tabled : Tabled t c.terms
  tabled = tabled-of m c p.ready.sized p.ready.audited.classed

  strings : (is_string s a ≡ true) × (is_string s b ≡ true)
  strings =
      let g = both_left (is_string s a && is_string s b && is_reason_kind k) (is_number v) fit in
      let j = both_left (is_string s a && is_string s b) (is_reason_kind k) g in
      (both_left (is_string s a) (is_string s b) j, both_right (is_string s a) (is_string s b) j)

  one : within c.terms a ≡ true
  one = term-within m c a (string-term s a strings.0)

  other : within c.terms b ≡ true
  other = term-within m c b (string-term s b strings.1)

  pub one-asked : (within c.terms a ≡ true) × Closed (class_up ts) c.terms
  one-asked = (one, tabled.classes)

  pub other-asked : (within c.terms b ≡ true) × Closed (class_up ts) c.terms
  other-asked = (other, tabled.classes)

  few : count s ≤ 512
  few = let g = p.ready.sized.term_limited in let j = view_count t c.terms in omega arith

  module _ {under over : ℕ} (eu : under ≡ root_in ts a) (eo : over ≡ root_in ts b) where
    in_class : under ≡ over → join_terms a b k v s (trail_of l d) ≡ gives s (trail_of l d) 0
    unfolding join_terms
    in_class z = rw (fit, eq-eqb (root s a) (root s b) (sym eu ∙ z ∙ eo))

    -- nothing changes
    pub join-same : under ≡ over → WorkingJoin a b k v m m l l c d 0 d
    join-same z = record {
      works = works (join_terms a b k v) p (join-tracked s (trail_of l d) (marks_tracked p) a b k v) p.trail (in_class z) (λ u. refl) (record { terms = λ u g. refl; terms_long = refl; index = λ n. left_same left-none n; words = λ i g. refl; long = refl });
      same = λ q. (refl, refl);
      linked = λ q. absurd (omega arith);
    }

    module _ (z : under ≡ over → ⊥) where
      apart : root s a ≡ root s b → ⊥
      apart q = z (eu ∙ q ∙ sym eo)

      pub top-asked : (within c.terms a ≡ true) × Closed (forest_up ts) c.terms
      top-asked = (one, subst (Closed (forest_up ts)) (view_count t c.terms) tabled.forest.closed)

      -- 511 records are enough
      fits : d.joins < join_limit
      fits =
          let i = joins_fit_lem s (trail_of l d) p.ready.audited p.marked few a b (string-term s a strings.0) (string-term s b strings.1) apart in
          let j = table-length (trace_at l) d.joins in
          omega arith

      pub record-asked : TrailSized l d × (d.joins < join_limit)
      record-asked = (p.trail, fits)

      pub link-asked : Linkable t c.terms a b under over
      link-asked = record { tabled = tabled; one = one; other = other; under_is = eu; over_is = eo }

      of-classes : join_terms a b k v s (trail_of l d) ≡ gives (with_terms s (join_in ts a b k v)) (recorded (trace_of ts a) (trail_of l d)) 1
      unfolding join_terms
      of-classes = rw (fit, ne_eqb (root s a) (root s b) apart)

      module _ {t' l' : List ℕ} {f : Standing} {old : ℕ} (et : old ≡ top_in ts a) (g : Trailed l l' (recorded (trace a old under) (trail_of l d)) f) (i : TermsBecome t t' c.terms (join_in ts a b k v)) where
        read : old ≡ top_in ts a → under ≡ root_in ts a → recorded (trace a old under) (trail_of l d) ≡ recorded (trace_of ts a) (trail_of l d)
        read x y = cc

        j : Trailed l l' (recorded (trace_of ts a) (trail_of l d)) f
        j = subst (λ (x : Trail). Trailed l l' x f) (read et eu) g

        joined : join_terms a b k v s (trail_of l d) ≡ gives (store_of (lent t' e h r ks) c) (trail_of l' f) 1
        joined = of-classes ∙ sym (ap (λ (w : Store). gives w (trail_of l' f) 1) (store-becomes t e h r ks t' c _ i) ∙ ap (λ (w : Trail). gives (with_terms s (join_in s.terms a b k v)) w 1) j.is)

        more-sized : TrailSized l' f
        more-sized = trailed-sized p.trail j.is j.long (few_marks_lem (ltb 0 (length (trail_of l d).marks))) (few_joins_lem (ltb 0 (length (trail_of l d).marks)))
          where
            few_marks_lem : (w : Bool) → length (if w then record { marks = (trail_of l d).marks; joins = one_more (trail_of l d).joins (trace_of ts a) } else trail_of l d).marks ≤ mark_limit
            few_marks_lem true = let n = table-length (λ u. get_or l u 0) d.marks in let o = p.trail.few_marks in omega arith
            few_marks_lem false = let n = table-length (λ u. get_or l u 0) d.marks in let o = p.trail.few_marks in omega arith

            few_joins_lem : (w : Bool) → length (if w then record { marks = (trail_of l d).marks; joins = one_more (trail_of l d).joins (trace_of ts a) } else trail_of l d).joins ≤ join_limit
            few_joins_lem true = let n = table-length (trace_at l) d.joins in let o = fits in let w = length-append (trail_of l d).joins (trace_of ts a ∷ []) in omega arith
            few_joins_lem false = let n = table-length (trace_at l) d.joins in let o = p.trail.few_joins in omega arith

        pub join-two : WorkingJoin a b k v m (lent t' e h r ks) l l' c d 1 f
        join-two = record {
          works = works (join_terms a b k v) p (join-tracked s (trail_of l d) (marks_tracked p) a b k v) more-sized joined (becomes-like t e h r ks c i (join-like s a b k v p.ready.audited (joinable-of a b k v s fit (ne_eqb _ _ apart)))) (record { terms = i.away; terms_long = i.long; index = λ n. left_same i.index n; words = j.rest; long = j.long });
          same = λ q. absurd (omega arith);
          linked = λ q. subst (λ (us : List Term). Linked s.terms us a b k v) (sym i.is) (join-linked s a b k v p.ready.audited (joinable-of a b k v s fit (ne_eqb _ _ apart)));
        }

-- SETTING A MARK

module _ {t e h r ks l : List ℕ} {c : State} {d : Standing} (p : ReadyMarks (lent t e h r ks) l c d) (g : d.marks < mark_limit) where
  abbrev x : Trail
  x = trail_of l d

  abbrev more : Trail
  more = record { marks = one_more x.marks (length x.joins); joins = x.joins }

  stand : length x.marks ≡ d.marks
  stand = table-length (λ i. get_or l i 0) d.marks

  module _ {l' : List ℕ} {f : Standing} (j : Trailed l l' more f) where
    one_appended : f.marks ≡ suc (length x.marks)
    one_appended = sym (table-length (λ i. get_or l' i 0) f.marks) ∙ ap (λ (y : Trail). length y.marks) j.is ∙ (let q = length-append x.marks (length x.joins ∷ []) in omega arith)

    set : set_mark (store_of (lent t e h r ks) c) x ≡ gives (store_of (lent t e h r ks) c) (trail_of l' f) f.marks
    unfolding set_mark
    set = rw (lt-ltb (length x.marks) mark_limit (let q = stand in omega arith))
        (ap (gives (store_of (lent t e h r ks) c) more) (sym one_appended) ∙ ap (λ (y : Trail). gives (store_of (lent t e h r ks) c) y f.marks) (sym j.is))

    pub mark_done : WorkingMarks set_mark (lent t e h r ks) (lent t e h r ks) l l' c d f.marks f
    mark_done = works set_mark p (mark_tracked (store_of (lent t e h r ks) c) x (marks_tracked p))
        (trailed-sized p.trail j.is j.long (let q = stand in let w = length-append x.marks (length x.joins ∷ []) in omega arith) (let q = table-length (trace_at l) d.joins in let w = p.trail.few_joins in omega arith))
        set (λ u. refl) (record { terms = λ u w. refl; terms_long = refl; index = λ n. left_same left-none n; words = j.rest; long = j.long })

-- GOING BACK

module _ {t e h r ks l : List ℕ} {c : State} {d : Standing} (p : ReadyMarks (lent t e h r ks) l c d) (i : ℕ) (stands : within d.marks i ≡ true) {left : ℕ} (el : left ≡ i - 1) {joins : ℕ} (ej : joins ≡ get_or l left 0) where
  abbrev mg : Lent
  mg = lent t e h r ks

  abbrev xg : Trail
  xg = trail_of l d

  left-low : left < d.marks
  left-low = let a = within_low d.marks i stands in let b = within-high d.marks i stands in omega arith

  joins_are : joins_at i xg ≡ joins
  joins_are = ap (λ (j : ℕ). get_or (table (λ x. get_or l x 0) d.marks) j 0) (sym el) ∙ table_at_lem (λ x. get_or l x 0) d.marks left 0 left-low ∙ sym ej

  stands-there : within (length xg.marks) i ≡ true
  stands-there = ap (λ (n : ℕ). within n i) (table-length (λ j. get_or l j 0) d.marks) ∙ stands

  low : joins ≤ d.joins
  low = let n = n-low (store_of mg c) xg p.marked i stands-there in let w = table-length (trace_at l) d.joins in let q = joins_are in omega arith

  pub back-asked : Tabled t c.terms × ((joins ≤ d.joins) × (d.joins ≤ join_limit))
  back-asked = (tabled-of mg c p.ready.sized p.ready.audited.classed, (low, p.trail.few_joins))

  abbrev left_over : Standing
  left_over = record { marks = left; joins = joins }

  trail_is : trail_of l left_over ≡ before i xg
  trail_is = read (sym (take-table (λ x. get_or l x 0) d.marks left (let q = left-low in omega arith))) (sym (take-table (trace_at l) d.joins joins low)) joins_are
    where
      read : table (λ x. get_or l x 0) left ≡ take left (table (λ x. get_or l x 0) d.marks) → table (trace_at l) joins ≡ take joins (table (trace_at l) d.joins) → joins_at i xg ≡ joins → trail_of l left_over ≡ before i xg
      read a b q = let s = el in cc

  -- a trail cut is no longer than it was
  cut-sized : TrailSized l left_over
  cut-sized = record { few_marks = (let a = left-low in let b = p.trail.few_marks in omega arith); few_joins = (let a = low in let b = p.trail.few_joins in omega arith); room = p.trail.room }

  abbrev table_of : Option (List Term)
  table_of = undo_all (drop joins (table (trace_at l) d.joins)) (terms_view t c.terms)

  table_is : table_at (joins_at i xg) xg (terms_view t c.terms) ≡ table_of
  table_is = ap (λ (j : ℕ). table_at j xg (terms_view t c.terms)) joins_are

  back_to : {t' : List ℕ} {us : List Term} → table_of ≡ some us → TermsBecome t t' c.terms us → WorkingMarks (go_back i) mg (lent t' e h r ks) l l c d i left_over
  back_to {t'} {us} q w = works (go_back i) p (back-tracked (store_of mg c) xg (marks_tracked p) i) cut-sized
      (back-goes i (store_of mg c) xg us stands-there (table_is ∙ q) ∙ sym (ap (λ (s : Store). gives s (trail_of l left_over) i) (store-becomes t e h r ks t' c us w) ∙ ap (λ (y : Trail). gives (with_terms (store_of mg c) us) y i) trail_is))
      (becomes-like t e h r ks c w (undone-stays (drop joins (table (trace_at l) d.joins)) (terms_view t c.terms) us (classed-forest (store_of mg c) p.ready.audited.classed) q).like)
      (record { terms = w.away; terms_long = w.long; index = λ n. left_same w.index n; words = λ j k. refl; long = refl })

  -- the rule of marks says that there is a table
  pub back_done : {t' : List ℕ} {b : Bool} → Undoes t t' c.terms table_of b → WorkingMarks (go_back i) mg (lent t' e h r ks) l l c d i left_over
  back_done {t'} u = go table_of refl u
    where
      found : some (rule_back (store_of mg c) xg p.marked i stands-there p.ready.audited).table ≡ table_of
      found = sym (rule_back (store_of mg c) xg p.marked i stands-there p.ready.audited).is ∙ table_is

      not_none : {us : List Term} → ◌≡◌ {A = Option (List Term)} (some us) none → ⊥
      not_none q = let w : ◌≡◌ {A = ℕ} 0 1 = cc in omega arith

      go : {b : Bool} (o : Option (List Term)) → table_of ≡ o → Undoes t t' c.terms o b → WorkingMarks (go_back i) mg (lent t' e h r ks) l l c d i left_over
      go (some us) q (undone w v) = back_to q w
      go none q (no_table w v) = absurd (not_none (found ∙ q))
