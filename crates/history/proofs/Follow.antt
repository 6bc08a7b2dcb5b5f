-- Actual calls follow their definitions: each by its public contract, one after the other.
use Rattle.std.specs.Prelude.{Result, Ok, Err}
use mathlib.Core.Path.{◌≡◌, refl, sym, ap, subst, ◌∙◌}
use mathlib.Core.Bool.{Bool, true, ◌&&◌}
use mathlib.Core.List.{List, [], ◌∷◌}
use Prim.Native.Nat.{ℕ}
use lib.ListN.{length}
use lib.Dec.{leb}
use borrow.Author.Tests.{leb-true}
use Rattle.records.specs.declared.State.{State}
use Rattle.records.specs.declared.refusal.Refusal.{Refusal}
use Rattle.records.specs.Refusal.{number}
use Rattle.records.specs.Lists.{all}
use Rattle.records.specs.Store.{Store, Out, ok, stop, Work}
use Rattle.records.specs.View.{Lent, store_of}
use Rattle.records.specs.Rules.{audit, reason_rule, list_limit}
use Rattle.records.specs.Make.{with_reasons}
use Rattle.records.specs.Calls.{Public, call, checked}
use Rattle.records.proofs.Lists.{decide, both_left, both_right}
use Rattle.records.specs.Working.Audited.{Audited, Ready}
use Rattle.records.specs.Index.{SameIndex}
use Rattle.records.proofs.Climbs.{view_count}
use Rattle.records.proofs.IndexStores.{records_beside, indexed_records}
use Rattle.records.proofs.Passed.{ready_of, ready-after, audit-of, audit-kept}
use Rattle.records.proofs.Beside.{audited-beside}
use Rattle.normalize.specs.Calls.{list_call}
use Rattle.classes.specs.declared.Standing.{Standing}
use Rattle.classes.specs.Marks.{Trail, trail_of, marks_rule}
use Rattle.classes.specs.Calls.{Outcome, gives, refuses, tracked, Tracks, join_terms, set_mark, go_back}
use Rattle.history.specs.History.{Event, World, moved}
use Rattle.history.specs.Calls.{Call, constant, variable, concat, length_of_term, equation, find_root, explain_pair_call, form, deep_form_call, equal, equal_explain, resolve_lists, one_step, empty_parts_call, forced_length_call, join, set_mark_call, go_back_call, ask, worked, listing, asked, after, run}
use Rattle.history.specs.Actual.{Memory, Told, given, refused, Asked, standing_after, OneCall, Ran, nothing, next, passes, world_of, EveryRun}
use Rattle.history.proofs.Worlds.{Holds}
use Rattle.classes.specs.Working.Carries.{TrailSized}
use Rattle.classes.proofs.ReadyMarks.{marks-ready, marks_pass}
use Rattle.history.proofs.Beginning.{Anything, start_any}
use Rattle.history.proofs.Every.{goes, asks_nothing}

-- store and trail of a world are those of some words
pub record Reads (y : Memory) (w : World) : Type 0 where
  pub store : store_of y.slices y.counts ≡ w.store
  pub trail : trail_of y.marks y.standing ≡ w.trail

-- after a call: what is read, and what the audit asks but for the rule of marks
record Came (y : Memory) (w : World) : Type 0 where
  reads : Reads y w
  audits : audit y.slices y.counts ≡ 0
  sizes : TrailSized y.marks y.standing

-- the same words and counts of marks
sized_as : {l l' : List ℕ} {d d' : Standing} → l' ≡ l → d' ≡ d → TrailSized l d → TrailSized l' d'
sized_as {l} {l'} {d} e f t = subst (TrailSized l') (sym f) (subst (λ (k : List ℕ). TrailSized k d) (sym e) t)

-- A CALL OVER THE STORE

module _ (x y : Memory) (w : World) (r : Reads x w) (ok-here : passes x) (marks : y.marks ≡ x.marks) (standing : y.standing ≡ x.standing) where
  abbrev m : Lent
  m = x.slices

  abbrev m' : Lent
  m' = y.slices

  z : audit m x.counts ≡ 0
  z = audit-of m x.counts (marks-ready ok-here).ready

  sized : TrailSized y.marks y.standing
  sized = sized_as marks standing (marks-ready ok-here).trail

  trails : trail_of y.marks y.standing ≡ w.trail
  trails = ap (λ (l : List ℕ). trail_of l y.standing) marks ∙ ap (trail_of x.marks) standing ∙ r.trail

  module _ {A : Type 0} (o : Out A) (out : Out A) (p : Public out m m' x.counts o) (is : o ≡ out) where
    came : Told o m' x.counts y.counts → Came y (worked w out)
    came (given a e) =
        let q : out ≡ ok (store_of m' y.counts) a = sym is ∙ e in
        subst (λ (v : Out A). Came y (worked w v)) (sym q) (record { reads = record { store = refl; trail = trails }; audits = p.passes y.counts a e; sizes = sized })
    came (refused k e c) =
        let q : out ≡ stop k = sym is ∙ e in
        subst (λ (v : Out A). Came y (worked w v)) (sym q) (record {
          reads = record { store = ap (store_of m') c ∙ p.kept ∙ r.store; trail = trails };
          audits = subst (λ (d : State). audit m' d ≡ 0) (sym c) (audit-kept m m' x.counts p.kept (p.back k e) z);
          sizes = sized;
        })

  -- a call answers by its definition over the store, where the audit passes
  call-is : {A : Type 0} (fit : Store → Bool) (work : Work A) → call fit work m x.counts ≡ checked (fit w.store) work w.store
  unfolding call
  call-is fit work = rw z (ap (λ (s : Store). checked (fit s) work s) r.store)

  list-is : {A : Type 0} (k : List ℕ) (fit : Store → Bool) (work : Work A) → list_call k fit work m x.counts ≡ listing k fit work w.store
  unfolding list_call
  list-is k fit work = decide (leb list_limit (length k)) (λ e. rw e (call-is fit work)) (λ e. rw e)

  called : {A : Type 0} (fit : Store → Bool) (work : Work A) {o : Out A} → Public (call fit work m x.counts) m m' x.counts o → Told o m' x.counts y.counts → Came y (worked w (checked (fit w.store) work w.store))
  called {A} fit work {o} p h = subst (λ (v : Out A). Came y (worked w v)) (call-is fit work) (came o _ p p.says h)

  listed : {A : Type 0} (k : List ℕ) (fit : Store → Bool) (work : Work A) {o : Out A} → Public (list_call k fit work m x.counts) m m' x.counts o → Told o m' x.counts y.counts → Came y (worked w (listing k fit work w.store))
  listed {A} k fit work {o} p h = subst (λ (v : Out A). Came y (worked w v)) (list-is k fit work) (came o _ p p.says h)

-- A CALL OVER THE MARKS

module _ (x y : Memory) (w : World) (r : Reads x w) (ok-here : passes x) (work : Store → Trail → Outcome) (f : ℕ → List Event) (counts : y.counts ≡ x.counts) where
  tracked-is : tracked work x.slices x.marks x.counts x.standing ≡ work w.store w.trail
  unfolding tracked
  tracked-is = rw ok-here (ap (λ (s : Store). work s (trail_of x.marks x.standing)) r.store ∙ ap (work w.store) r.trail)

  marked : (o : Result (ℕ × Standing) Refusal) → Tracks work x.slices y.slices x.marks y.marks x.counts x.standing o → y.standing ≡ standing_after x.standing o → Came y (moved w f (work w.store w.trail))
  marked (Ok (n, e)) p q =
      let i : work w.store w.trail ≡ gives (store_of y.slices x.counts) (trail_of y.marks e) n = sym tracked-is ∙ sym p.says in
      let a = p.audited n e refl in
      subst (λ (v : Outcome). Came y (moved w f v)) (sym i) (record {
        reads = record { store = ap (store_of y.slices) counts; trail = ap (trail_of y.marks) q };
        audits = subst (λ (c : State). audit y.slices c ≡ 0) (sym counts) (audit-of y.slices x.counts (marks-ready a).ready);
        sizes = sized_as refl q (marks-ready a).trail;
      })
  marked (Err k) p q =
      let i : work w.store w.trail ≡ refuses (number k) = sym tracked-is ∙ sym p.says in
      let a = p.idle k refl in
      subst (λ (v : Outcome). Came y (moved w f v)) (sym i) (record {
        reads = record {
          store = ap (store_of y.slices) counts ∙ ap (λ (m : Lent). store_of m x.counts) a.0 ∙ r.store;
          trail = ap (trail_of y.marks) q ∙ ap (λ (l : List ℕ). trail_of l x.standing) a.1 ∙ r.trail;
        };
        audits = ap (audit y.slices) counts ∙ ap (λ (m : Lent). audit m x.counts) a.0 ∙ audit-of x.slices x.counts (marks-ready ok-here).ready;
        sizes = sized_as a.1 q (marks-ready ok-here).trail;
      })

-- THE CALLER'S REASONS

asks : (rs : List (ℕ × ℕ)) (x y : Memory) (w : World) → Reads x w → passes x → Holds Anything w → Asked rs x y → Came y (worked w (asked rs w.store))
asks rs x y w r ok-here h a =
    let e : (all reason_rule rs && leb (length rs) w.store.room.reasons) ≡ true = ap (λ (s : Store). all reason_rule rs && leb (length rs) s.room.reasons) (sym r.store) ∙ a.fits in
    let b = a.is ∙ ap (λ (s : Store). with_reasons s rs) r.store in
    rw e (record {
      reads = record { store = b; trail = ap (λ (l : List ℕ). trail_of l y.standing) a.marks ∙ ap (trail_of x.marks) a.standing ∙ r.trail };
      audits = audit-of y.slices y.counts (asked-ready e);
      sizes = sized_as a.marks a.standing (marks-ready ok-here).trail;
    })
  where
    asked-ready : (all reason_rule rs && leb (length rs) w.store.room.reasons) ≡ true → Ready y.slices y.counts
    asked-ready e =
        ready-after (marks-ready ok-here).ready
        (ap (λ (s : Store). s.room.terms_long) a.is) (ap (λ (s : Store). s.room.cells_long) a.is)
        (subst Audited (sym (a.is ∙ ap (λ (s : Store). with_reasons s rs) r.store))
        (audited-beside w.store rs w.store.keys w.store.names h.audited (both_left (all reason_rule rs) _ e) h.audited.recorded.keys
        (leb-true (length rs) w.store.room.reasons (both_right (all reason_rule rs) _ e)) h.audited.roomy.keys))
        (indexed_records (records_beside refl a.is) (subst (λ (n : ℕ). SameIndex x.slices.terms y.slices.terms n) (sym (view_count x.slices.terms x.counts.terms)) a.index) (marks-ready ok-here).ready.indexed)

-- ONE CALL, AND ALL

does : (f : Call) (x y : Memory) (w : World) → Reads x w → passes x → Holds Anything w → OneCall f x y → Came y (after f w)
unfolding OneCall after
does (constant u) x y w r z h d = called x y w r z d.marks d.standing _ _ d.promise d.counts
does (variable u) x y w r z h d = called x y w r z d.marks d.standing _ _ d.promise d.counts
does (concat l) x y w r z h d = called x y w r z d.marks d.standing _ _ d.promise d.counts
does (length_of_term t) x y w r z h d = called x y w r z d.marks d.standing _ _ d.promise d.counts
does (equation a b) x y w r z h d = called x y w r z d.marks d.standing _ _ d.promise d.counts
does (find_root t) x y w r z h d = called x y w r z d.marks d.standing _ _ d.promise d.counts
does (explain_pair_call a b) x y w r z h d = called x y w r z d.marks d.standing _ _ d.promise.is d.counts
does (form known t k) x y w r z h d = let c = d.call in listed x y w r z c.marks c.standing k _ _ c.promise.is.store c.counts
does (deep_form_call known t k) x y w r z h d = let c = d.call in listed x y w r z c.marks c.standing k _ _ c.promise.is.store c.counts
does (equal l₁ l₂) x y w r z h d = called x y w r z d.marks d.standing _ _ d.promise d.counts
does (equal_explain l₁ l₂) x y w r z h d = called x y w r z d.marks d.standing _ _ d.promise.is d.counts
does (resolve_lists l₁ l₂ g k) x y w r z h d = let c = d.call in listed x y w r z c.marks c.standing k _ _ c.promise.is.store c.counts
does (one_step known e g k) x y w r z h d = let c = d.call in listed x y w r z c.marks c.standing k _ _ c.promise.is.store c.counts
does (empty_parts_call l₁ l₂ k) x y w r z h d = let c = d.call in listed x y w r z c.marks c.standing k _ _ c.promise.is.store c.counts
does (forced_length_call l₁ l₂) x y w r z h d = called x y w r z d.marks d.standing _ _ d.promise.is d.counts
does (join a b k v) x y w r z h d = marked x y w r z (join_terms a b k v) _ d.counts d.outcome d.promise.tracks d.standing
does set_mark_call x y w r z h d = marked x y w r z set_mark _ d.counts d.outcome d.promise d.standing
does (go_back_call i) x y w r z h d = marked x y w r z (go_back i) _ d.counts d.outcome d.promise d.standing
does (ask rs) x y w r z h d = asks rs x y w r z h d

-- where the rule of marks holds of what is read, all passes again
passes-after : (y : Memory) (w : World) → Came y w → Holds Anything w → passes y
passes-after y w c h =
    marks_pass (record {
      ready = ready_of y.slices y.counts c.audits;
      trail = c.sizes;
      marked = ap (λ (s : Store). marks_rule s (trail_of y.marks y.standing)) c.reads.store ∙ ap (marks_rule w.store) c.reads.trail ∙ h.marked;
    })

follows : (calls : List Call) (x y : Memory) (w : World) → Reads x w → passes x → Holds Anything w → Ran calls x y → Reads y (run calls w) × passes y
unfolding run
follows [] x y w r z h nothing = (r, z)
follows (f ∷ calls) x y w r z h (next {y = v} d ran) =
    let c = does f x v w r z h d in
    let g = (goes asks_nothing w h f).holds in
    follows calls v y (after f w) c.reads (passes-after v (after f w) c g) g ran

pub every_run : EveryRun
every_run calls x y z ran =
    let p = follows calls x y (world_of x) (record { store = refl; trail = refl }) z (start_any x.slices x.marks x.counts x.standing z) ran in
    record { store = p.0.store; trail = p.0.trail; again = p.1 }
