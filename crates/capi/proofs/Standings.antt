-- Joining, setting a mark and going back, told in words.
use Rattle.std.specs.Prelude.{Result, Ok, Err}
use mathlib.Core.Path.{◌≡◌, refl, sym, ap, subst, ◌∙◌}
use mathlib.Core.Bool.{Bool, true, false, ◌&&◌}
use mathlib.Core.List.{List, [], ◌∷◌}
use mathlib.Core.Option.{Option, none, some}
use Prim.Native.Nat.{ℕ, zero, suc, ◌≤◌, ◌<◌}
use native.Mathlib.Omega.{arith}
use lib.ListN.{length, get_or, set, length-set}
use lib.Seq.{take-set-le, drop-set-lt, set-get_or, get_or-set_same, get_or-set_other}
use lib.Dec.{leb, ltb}
use borrow.Author.Tests.{leb-true, lt-leb, le-leb}
use Rattle.records.specs.declared.State.{State}
use Rattle.records.specs.Lists.{table, one_more}
use Rattle.records.specs.Store.{Term, Store, within, same_class}
use Rattle.records.specs.View.{Lent, store_of, sizes}
use Rattle.records.proofs.Lists.{both_left, both_right, decide, table-length}
use Rattle.classes.specs.declared.Standing.{Standing}
use Rattle.records.specs.declared.refusal.Refusal.{Refusal}
use Rattle.records.specs.declared.refusal.Refusal.TheVariants as refusal
use Rattle.records.specs.Refusal.{number}
use Rattle.records.proofs.Public.{numbered}
use Rattle.classes.specs.Joins.{Trace, trace_of}
use Rattle.classes.specs.Marks.{Trail, mark_limit, join_limit, trace_at, trail_of, trail_sizes, table_at, audit_marks}
use Rattle.classes.specs.Calls.{Outcome, gives, refuses, join_arguments, recorded, join_terms, set_mark, joins_at, gone, go_back, unless, tracked, answered, Tracks, PublicJoin}
use Rattle.capi.specs.Interface.{state_of, Beyond, answer_room, roomy}
use Rattle.capi.specs.Marks.{standing_of, marked_room, Inside, read_as, Promise, ExportedMarks}
use Rattle.capi.specs.Working.Leaves.{put_first, Telling, answer_with, ToldWords, ToldBy}
use Rattle.capi.specs.Working.Standings.{standing_in, NarrowStanding, NarrowGiven, given_telling, number_telling}
use Rattle.capi.proofs.Words.{beyond_same, beyond_words, roomy-state, roomy-answer}

-- THE COUNTS OF MARKS AND JOINS

inside-same : (i j : ℕ) (w : List ℕ) → Inside i j w w
inside-same i j w = record { length_is = refl; first = refl; rest = refl }

inside-set : (i : ℕ) (w : List ℕ) (x : ℕ) → Inside i (suc i) w (set w i x)
inside-set i w x = record { length_is = length-set w i x; first = take-set-le i w i x (omega arith); rest = drop-set-lt (suc i) w i x (omega arith) }

pub standing-read : (w : List ℕ) {x y : ℕ} → x ≡ get_or w 6 0 → y ≡ get_or w 7 0 → ◌≡◌ {A = Standing} (record { marks = x; joins = y }) (standing_of w)
standing-read w p q = rw (p, q)

module _ (e : Standing) (w : List ℕ) where
  back : marked_room ≤ length w → standing_of (standing_in e w) ≡ e
  back h = sym (standing-read (standing_in e w) (sym (get_or-set_other (set w 6 e.marks) 7 6 e.joins 0 (λ q. omega (arith, q)) ∙ get_or-set_same w 6 e.marks 0 (omega arith)))
      (sym (get_or-set_same (set w 6 e.marks) 7 e.joins 0 (simp length-set (omega arith)))))

  -- the two words, one of them as it was or neither
  inside_both : Inside 6 8 w (standing_in e w)
  inside_both = record {
    length_is = length-set (set w 6 e.marks) 7 e.joins ∙ length-set w 6 e.marks;
    first = take-set-le 6 (set w 6 e.marks) 7 e.joins (omega arith) ∙ take-set-le 6 w 6 e.marks (omega arith);
    rest = drop-set-lt 8 (set w 6 e.marks) 7 e.joins (omega arith) ∙ drop-set-lt 8 w 6 e.marks (omega arith);
  }

  inside-joins : e.marks ≡ get_or w 6 0 → Inside 7 8 w (standing_in e w)
  inside-joins p = subst (λ (v : List ℕ). Inside 7 8 w (set v 7 e.joins)) (sym (ap (set w 6) p ∙ set-get_or w 6 0)) (inside-set 7 w e.joins)

  inside-marks : e.joins ≡ get_or w 7 0 → Inside 6 7 w (standing_in e w)
  inside-marks p =
      let v : List ℕ = set w 6 e.marks in
      let q : get_or v 7 0 ≡ get_or w 7 0 = get_or-set_other w 6 7 e.marks 0 (λ i. omega (arith, i)) in
      subst (λ (u : List ℕ). Inside 6 7 w u) (sym (ap (set v 7) (p ∙ sym q) ∙ set-get_or v 7 0)) (inside-set 6 w e.marks)

-- WHAT IS READ OFF

not-both : {X : Type 0} {b : Bool} → b ≡ true → b ≡ false → X
not-both p q = let y : ◌≡◌ {A = ℕ} 0 1 = cc in absurd (omega arith)

-- a state or an answer too short
pub marks-short : {P : Promise} {i j : ℕ} {fit : Bool} (m : Lent) (l w a : List ℕ) (n : ℕ) → fit ≡ false → {k : ℕ} → k ≡ 1 → ExportedMarks P i j fit m m l l w w a a n k
marks-short {i = i} {j = j} m l w a n e q = record {
  is = λ f. not-both f e;
  short = λ f. q;
  known = omega arith;
  state = inside-same i j w;
  answer = beyond_same 1 a;
  store_idle = λ f. refl;
  marks_idle = λ f. refl;
  state_idle = λ f. refl;
  answer_idle = λ f. refl;
}

-- a refusal's number is read off as the refusal
read-refused : (e : Refusal) (n : ℕ) (w : List ℕ) → read_as (number e) n w ≡ Err e
read-refused refusal.Sizes n w = refl
read-refused refusal.Records n w = refl
read-refused refusal.Classes n w = refl
read-refused refusal.Congruences n w = refl
read-refused refusal.Argument n w = refl
read-refused refusal.List n w = refl
read-refused refusal.Reasons n w = refl
read-refused refusal.Room n w = refl
read-refused refusal.Names n w = refl
read-refused refusal.Mark n w = refl
read-refused refusal.Form n w = refl
read-refused refusal.Index n w = refl

-- no refusal has a higher number
numbers_end : (e : Refusal) → number e ≤ 12
numbers_end refusal.Sizes = omega arith
numbers_end refusal.Records = omega arith
numbers_end refusal.Classes = omega arith
numbers_end refusal.Congruences = omega arith
numbers_end refusal.Argument = omega arith
numbers_end refusal.List = omega arith
numbers_end refusal.Reasons = omega arith
numbers_end refusal.Room = omega arith
numbers_end refusal.Names = omega arith
numbers_end refusal.Mark = omega arith
numbers_end refusal.Form = omega arith
numbers_end refusal.Index = omega arith

-- what of a call its telling rests on
record Tellable (P : Promise) (i j : ℕ) (m m' : Lent) (l l' w : List ℕ) (r : Result (ℕ × Standing) Refusal) : Type 0 where
  promise : P m m' l l' (state_of w) (standing_of w) r
  idle : (k : Refusal) → r ≡ Err k → (m' ≡ m) × (l' ≡ l)
  inside : (x : ℕ) (e : Standing) → r ≡ Ok (x, e) → Inside i j w (standing_in e w)

module _ {P : Promise} {i j : ℕ} {fit : Bool} {m m' : Lent} {l l' w : List ℕ} (f : fit ≡ true) (h : marked_room ≤ length w) where
  -- n is the number given, and its words are one at most
  told-state : (words : ℕ → List ℕ) (r : Result (ℕ × Standing) Refusal) → Tellable P i j m m' l l' w r → {w' a a' : List ℕ} {k : ℕ} → ToldWords standing_in w w' a a' (given_telling words r) k → (n : ℕ)
      → ((x : ℕ) (e : Standing) → r ≡ Ok (x, e) → (n ≡ x) × Beyond 1 a (put_first (words x) a)) → ExportedMarks P i j fit m m' l l' w w' a a' n k
  told-state words (Ok (x, e)) t {w'} {a} {a'} u n g =
      let q : ◌≡◌ {A = Result (ℕ × Standing) Refusal} (Ok (n, standing_of (standing_in e w))) (Ok (x, e)) = ap (λ (y : ℕ). Ok (y, standing_of (standing_in e w))) (g x e refl).0 ∙ ap (λ (y : Standing). Ok (x, y)) (back e w h) in
      rw (u.code, u.state, u.answer) (record {
        is = λ y. subst (λ (r : Result (ℕ × Standing) Refusal). P m m' l l' (state_of w) (standing_of w) r) (sym q) t.promise;
        short = λ y. not-both f y;
        known = omega arith;
        state = t.inside x e refl;
        answer = (g x e refl).1;
        store_idle = λ y. absurd (y refl);
        marks_idle = λ y. absurd (y refl);
        state_idle = λ y. absurd (y refl);
        answer_idle = λ y. absurd (y refl);
      })
  told-state words (Err e) t {w'} {a} u n g =
      rw (u.code, u.state, u.answer) (record {
        is = λ y. subst (λ (r : Result (ℕ × Standing) Refusal). P m m' l l' (state_of w) (standing_of w) r) (sym (read-refused e n w)) t.promise;
        short = λ y. not-both f y;
        known = numbers_end e;
        state = inside-same i j w;
        answer = beyond_same 1 a;
        store_idle = λ y. (t.idle e refl).0;
        marks_idle = λ y. (t.idle e refl).1;
        state_idle = λ y. refl;
        answer_idle = λ y. refl;
      })

  told-number : {a : List ℕ} → answer_room ≤ length a → (r : Result (ℕ × Standing) Refusal) → Tellable P i j m m' l l' w r → {w' a' : List ℕ} {k : ℕ} → ToldBy standing_in number_telling w w' a a' r k → ExportedMarks P i j fit m m' l l' w w' a a' (get_or a' 0 0) k
  told-number {a} o r t {w'} {a'} u =
      told-state (λ x. x ∷ []) r t u.is (get_or a' 0 0)
      (λ x e q. (ap (λ (v : List ℕ). get_or v 0 0) (u.is.answer ∙ ap (λ (y : Result (ℕ × Standing) Refusal). answer_with (number_telling y) a) q), beyond_words (x ∷ []) a (omega arith)))

-- WHAT THE CALLS GIVE

module _ (work : Store → Trail → Outcome) (m : Lent) (l : List ℕ) (c : State) (d : Standing) where
  tracked-gives : {s : Store} {x : Trail} {n : ℕ} → tracked work m l c d ≡ gives s x n → work (store_of m c) (trail_of l d) ≡ gives s x n
  unfolding tracked
  tracked-gives {s} {x} {n} e = go (audit_marks m l c d) e
    where
      go : (k : ℕ) → unless k (work (store_of m c) (trail_of l d)) ≡ gives s x n → work (store_of m c) (trail_of l d) ≡ gives s x n
      go zero e = e
      go (suc k) e = let z : ◌≡◌ {A = ℕ} 0 1 = cc in absurd (omega arith)

module _ {work : Store → Trail → Outcome} {m m' : Lent} {l l' : List ℕ} {c : State} {d : Standing} {r : Result (ℕ × Standing) Refusal} (t : Tracks work m m' l l' c d r) where
  given-says : (x : ℕ) (e : Standing) → r ≡ Ok (x, e) → work (store_of m c) (trail_of l d) ≡ gives (store_of m' c) (trail_of l' e) x
  given-says x e q = tracked-gives work m l c d (sym t.says ∙ ap (λ (y : Result (ℕ × Standing) Refusal). answered y m' l' c) q)

-- a store and marks that pass the audit have counts within their limits
standing_narrow : (m : Lent) (l : List ℕ) (c : State) (e : Standing) → audit_marks m l c e ≡ 0 → NarrowStanding e
unfolding audit_marks trail_sizes
standing_narrow m l c e h = decide (sizes m c && trail_sizes l e)
    (λ p.
    let q = both_left (leb e.marks mark_limit && leb e.joins join_limit) _ (both_right (sizes m c) _ p) in
    let x : e.marks ≤ mark_limit = leb-true e.marks mark_limit (both_left (leb e.marks mark_limit) _ q) in
    let y : e.joins ≤ join_limit = leb-true e.joins join_limit (both_right (leb e.marks mark_limit) _ q) in
    record { marks = omega arith; joins = omega arith })
    (λ p. let z = rw p at h in absurd (omega arith))

pub tracks_narrow : {work : Store → Trail → Outcome} {m m' : Lent} {l l' : List ℕ} {c : State} {d : Standing} {r : Result (ℕ × Standing) Refusal} → Tracks work m m' l l' c d r → NarrowGiven r
tracks_narrow {m' = m'} {l' = l'} {c = c} t = record { counts = λ n e q. standing_narrow m' l' c e (t.audited n e q) }

-- joining leaves the marks, and setting a mark the joins
recorded-marks : (y : Trace) (x : Trail) → (recorded y x).marks ≡ x.marks
recorded-marks y x = decide (ltb 0 (length x.marks)) (λ e. rw e) (λ e. rw e)

module _ (a b k v : ℕ) (s : Store) (x : Trail) where
  join-marks : (s' : Store) (x' : Trail) (n : ℕ) → join_terms a b k v s x ≡ gives s' x' n → x'.marks ≡ x.marks
  unfolding join_terms
  join-marks s' x' n e = decide (join_arguments a b k v s)
      (λ p. decide (same_class s a b)
      (λ q. let h = rw (p, q) at e in let z : x' ≡ x = cc in ap (λ (y : Trail). y.marks) z)
      (λ q. let h = rw (p, q) at e in let z : x' ≡ recorded (trace_of s.terms a) x = cc in ap (λ (y : Trail). y.marks) z ∙ recorded-marks (trace_of s.terms a) x))
      (λ p. let h = rw p at e in let z : ◌≡◌ {A = ℕ} 0 1 = cc in absurd (omega arith))

module _ (s : Store) (x : Trail) where
  mark_joins : (s' : Store) (x' : Trail) (n : ℕ) → set_mark s x ≡ gives s' x' n → x'.joins ≡ x.joins
  unfolding set_mark
  mark_joins s' x' n e = decide (ltb (length x.marks) mark_limit)
      (λ p. let h = rw p at e in let z : x' ≡ record { marks = one_more x.marks (length x.joins); joins = x.joins } = cc in ap (λ (y : Trail). y.joins) z)
      (λ p. let h = rw p at e in let z : ◌≡◌ {A = ℕ} 0 1 = cc in absurd (omega arith))

  -- going back gives the number of its mark
  gone-number : (i : ℕ) (o : Option (List Term)) (s' : Store) (x' : Trail) (n : ℕ) → gone i s x o ≡ gives s' x' n → i ≡ n
  gone-number i none s' x' n e = let z : ◌≡◌ {A = ℕ} 0 1 = cc in absurd (omega arith)
  gone-number i (some ts) s' x' n e = let z : i ≡ n = cc in z

  back-number : (i : ℕ) (s' : Store) (x' : Trail) (n : ℕ) → go_back i s x ≡ gives s' x' n → i ≡ n
  unfolding go_back
  back-number i s' x' n e = decide (within (length x.marks) i)
      (λ p. let h = rw p at e in gone-number i (table_at (joins_at i x) x s.terms) s' x' n h)
      (λ p. let h = rw p at e in let z : ◌≡◌ {A = ℕ} 0 1 = cc in absurd (omega arith))

-- lists of equal records are of one length
tables-long : {A : Type 0} (f g : ℕ → A) (i j : ℕ) → table f i ≡ table g j → i ≡ j
tables-long f g i j p = sym (table-length f i) ∙ ap length p ∙ table-length g j

-- THE EXPORTED CALLS

-- going back tells no number
abbrev pub standing_telling : Result (ℕ × Standing) Refusal → Telling Standing
standing_telling r = given_telling (λ n. []) r

pub back-short : (m : Lent) (l w : List ℕ) (mark : ℕ) → length w < marked_room → {k : ℕ} → k ≡ 1 → ExportedMarks (Tracks (go_back mark)) 6 8 (leb marked_room (length w)) m m l l w w [] [] mark k
back-short m l w mark h q = marks-short m l w [] mark (lt-leb marked_room (length w) h) q

-- the promise of the counts that the words have
module _ (P : Promise) (m m' : Lent) (l l' w : List ℕ) (r : Result (ℕ × Standing) Refusal) where
  moved : {c : State} {d : Standing} → c ≡ state_of w → d ≡ standing_of w → P m m' l l' c d r → P m m' l l' (state_of w) (standing_of w) r
  moved {c} i j p = subst (λ (y : State). P m m' l l' y (standing_of w) r) i (subst (λ (y : Standing). P m m' l l' c y r) j p)

module _ {m m' : Lent} {l l' w w' : List ℕ} {c : State} {d : Standing} {r : Result (ℕ × Standing) Refusal} {k : ℕ} (counted : c ≡ state_of w) (standing : d ≡ standing_of w) where
  pub join_exported : {a b kind number : ℕ} {v v' : List ℕ} → PublicJoin a b kind number m m' l l' c d r → roomy marked_room w v ≡ true → ToldBy standing_in number_telling w w' v v' r k
      → ExportedMarks (PublicJoin a b kind number) 7 8 (roomy marked_room w v) m m' l l' w w' v v' (get_or v' 0 0) k
  join_exported {a} {b} {kind} {number} {v} called room u =
      let p = moved (PublicJoin a b kind number) m m' l l' w r counted standing called in
      let h = roomy-state marked_room w v room in
      told-number {P = PublicJoin a b kind number} {i = 7} {j = 8} room h (roomy-answer marked_room w v room) r
      (record {
        promise = p;
        idle = p.tracks.idle;
        inside = λ x e q. inside-joins e w (tables-long (λ (y : ℕ). get_or l' y 0) (λ (y : ℕ). get_or l y 0) e.marks (get_or w 6 0)
            (join-marks a b kind number (store_of m (state_of w)) (trail_of l (standing_of w)) (store_of m' (state_of w)) (trail_of l' e) x (given-says p.tracks x e q)));
      }) u

  pub mark_exported : {v v' : List ℕ} → Tracks set_mark m m' l l' c d r → roomy marked_room w v ≡ true → ToldBy standing_in number_telling w w' v v' r k
      → ExportedMarks (Tracks set_mark) 6 7 (roomy marked_room w v) m m' l l' w w' v v' (get_or v' 0 0) k
  mark_exported {v} called room u =
      let p = moved (Tracks set_mark) m m' l l' w r counted standing called in
      let h = roomy-state marked_room w v room in
      told-number {P = Tracks set_mark} {i = 6} {j = 7} room h (roomy-answer marked_room w v room) r
      (record {
        promise = p;
        idle = p.idle;
        inside = λ x e q. inside-marks e w (tables-long (trace_at l') (trace_at l) e.joins (get_or w 7 0)
            (mark_joins (store_of m (state_of w)) (trail_of l (standing_of w)) (store_of m' (state_of w)) (trail_of l' e) x (given-says p x e q)));
      }) u

  pub back_exported : {mark : ℕ} → Tracks (go_back mark) m m' l l' c d r → marked_room ≤ length w → ToldBy standing_in standing_telling w w' [] [] r k
      → ExportedMarks (Tracks (go_back mark)) 6 8 (leb marked_room (length w)) m m' l l' w w' [] [] mark k
  back_exported {mark} called h u =
      let p = moved (Tracks (go_back mark)) m m' l l' w r counted standing called in
      told-state {P = Tracks (go_back mark)} {i = 6} {j = 8} (le-leb marked_room (length w) h) h (λ x. []) r
      (record {
        promise = p;
        idle = p.idle;
        inside = λ x e q. inside_both e w;
      }) u.is mark (λ x e q. (back-number (store_of m (state_of w)) (trail_of l (standing_of w)) mark (store_of m' (state_of w)) (trail_of l' e) x (given-says p x e q), beyond_same 1 []))
