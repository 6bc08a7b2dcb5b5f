-- The code of merging meets its definition: the tests, the record written, and the three ways of the call.
use Rattle.std.specs.Prelude.{Result, Ok, Err}
use Rattle.records.specs.declared.refusal.Refusal.{Refusal}
use Rattle.records.specs.declared.refusal.Refusal.TheVariants.{Argument}
use Rattle.records.specs.Refusal.{number}
use mathlib.Core.Path.{◌≡◌, refl, sym, ap, subst, ◌∙◌}
use mathlib.Core.Bool.{Bool, true, false, not, ◌&&◌}
use mathlib.Core.List.{List}
use Prim.Native.Nat.{ℕ, ◌-◌, ◌≤◌, ◌<◌}
use native.Mathlib.Omega.{arith}
use lib.ListN.{length, set}
use lib.Seq.{set-set}
use lib.Dec.{eqb}
use Rattle.records.specs.declared.State.{State}
use Rattle.records.specs.Store.{Term, Store, ok, count, within, is_string, same_class, root_in, class_up}
use Rattle.records.specs.View.{Lent, lent, store_of, term_at, terms_view, term_words, zero_term}
use Rattle.records.specs.Working.Puts.{TermSet}
use Rattle.records.specs.Index.{bucket}
use Rattle.records.specs.Rules.{audit, is_number}
use Rattle.records.specs.Make.{with_terms, with_class, with_edge}
use Rattle.records.specs.Working.Audited.{Ready, Closed, Audited}
use Rattle.records.specs.Calls.{call}
use Rattle.records.proofs.Lists.{and-stop, and-next, within_low, within-high, both_left, both_right}
use Rattle.records.proofs.IndexStores.{left-none, left-then, left_same, indexed-like}
use Rattle.records.proofs.Passed.{ready_of, ready-after, audit-of}
use Rattle.records.proofs.Public.{call_refused, call-unfit}
use Rattle.records.proofs.Grown.{string-term}
use Rattle.records.proofs.Climbs.{view_term, view_count, term-within, ready_roots}
use Rattle.classes.specs.Merge.{is_root_in, can_merge, under, merge_in, merge_classes, PublicMerge}
use Rattle.classes.proofs.Alike.{bucket-like}
use Rattle.classes.proofs.MergeKept.{mergeable, merge-like, merge-kept}

-- THE TESTS

module _ (m : Lent) (c : State) (child parent n : ℕ) where
  abbrev s : Store
  s = store_of m c

  -- all of the tests but the last, and but the last two
  abbrev pub counted : Bool
  counted = is_string s child && is_string s parent && is_number n

  abbrev pub rooted : Bool
  rooted = counted && is_root_in s.terms child

  both-counted : counted ≡ true → (within c.terms child ≡ true) × (within c.terms parent ≡ true)
  both-counted h =
      let p = both_left (is_string s child && is_string s parent) _ h in
      (term-within m c child (string-term s child (both_left _ _ p)), term-within m c parent (string-term s parent (both_right (is_string s child) _ p)))

  both-climb : rooted ≡ true → Ready m c → ((within c.terms child ≡ true) × (within c.terms parent ≡ true)) × Closed (class_up s.terms) c.terms
  both-climb h d = (both-counted (both_left counted _ h), ready_roots m c d.audited.classed)

  module _ (v : Bool) (e : v ≡ counted) where
    pub child-counted : v ≡ true → within c.terms child ≡ true
    child-counted h = (both-counted (sym e ∙ h)).0

    pub test-root : v ≡ true → (r : Bool) → r ≡ is_root_in s.terms child → r ≡ rooted
    test-root h r q = and-next counted _ r (sym e ∙ h) q

    pub test-uncounted : v ≡ false → v ≡ rooted
    test-uncounted h = h ∙ and-stop counted _ (sym e ∙ h)

  module _ (w : Bool) (e : w ≡ rooted) where
    pub child-climbs : w ≡ true → Ready m c → (within c.terms child ≡ true) × Closed (class_up s.terms) c.terms
    child-climbs h d = let q = both-climb (sym e ∙ h) d in (q.0.0, q.1)

    pub parent-climbs : w ≡ true → Ready m c → (within c.terms parent ≡ true) × Closed (class_up s.terms) c.terms
    parent-climbs h d = let q = both-climb (sym e ∙ h) d in (q.0.1, q.1)

    pub cannot-merge : w ≡ false → w ≡ can_merge child parent n s
    unfolding can_merge
    cannot-merge h = h ∙ and-stop rooted (not (same_class s child parent)) (sym e ∙ h)

    pub can-last : w ≡ true → (x y : ℕ) → x ≡ root_in s.terms child → y ≡ root_in s.terms parent → not (eqb x y) ≡ can_merge child parent n s
    unfolding can_merge
    can-last h x y p q = and-next rooted (not (same_class s child parent)) _ (sym e ∙ h) (rw (p, q))

-- THE RECORD

-- a record changed twice is what it was changed to last
set_twice : {l l₁ l₂ : List ℕ} {t : ℕ} {x y : Term} → TermSet l l₁ t x → TermSet l₁ l₂ t y → TermSet l l₂ t y
set_twice {l} {l₁} {l₂} {t} {x} {y} a b = record {
  long = b.long ∙ a.long;
  here = b.here;
  away = λ u z. b.away u z ∙ a.away u z;
  index = left-then a.index b.index;
  terms = λ n h. b.terms n h ∙ ap (λ (ts : List Term). set ts (t - 1) y) (a.terms n h) ∙ set-set (terms_view l n) (t - 1) x y;
}

pub put_under : (l l₁ l₂ : List ℕ) (t p v s : ℕ) → TermSet l l₁ t (with_class (term_at l t) p) → TermSet l₁ l₂ t (with_edge (term_at l₁ t) p 1 v s) → TermSet l l₂ t (under (term_at l t) p v s)
put_under l l₁ l₂ t p v s a b = subst (TermSet l l₂ t) (ap (λ (x : Term). with_edge x p 1 v s) a.here) (set_twice a b)

-- THE CALL

not-merged : {A : Type 0} {k : Refusal} → ◌≡◌ {A = Result (Unit {0}) Refusal} (Err k) (Ok tt) → A
not-merged q = let z : ◌≡◌ {A = ℕ} 0 1 = cc in absurd (omega arith)

child-within : (m : Lent) (c : State) (child parent n : ℕ) → can_merge child parent n (store_of m c) ≡ true → within c.terms child ≡ true
child-within m c child parent n g = term-within m c child (string-term (store_of m c) child (mergeable (store_of m c) child parent n g).child_string)

pub merge_unready : (m : Lent) (c : State) (child parent n stamp : ℕ) (e : Refusal) → number e ≡ audit m c → PublicMerge m m c child parent n stamp (Err e)
merge_unready m c child parent n stamp e v = record { says = (call_refused (can_merge child parent n) (merge_classes child parent n stamp) m c e v).says; idle = λ j q. refl; others = λ t d. refl; index = λ n. left_same left-none n; kept = λ q. not-merged q }

module _ (m : Lent) (c : State) (child parent n stamp k : ℕ) (v : k ≡ audit m c) where
  module _ (z : k ≡ 0) (b : Bool) (e : b ≡ can_merge child parent n (store_of m c)) where
    pub merge-unfit : b ≡ false → PublicMerge m m c child parent n stamp (Err Argument)
    merge-unfit h = record { says = (call-unfit (can_merge child parent n) (merge_classes child parent n stamp) m c k v z b e h).says; idle = λ j q. refl; others = λ t d. refl; index = λ n. left_same left-none n; kept = λ q. not-merged q }

    -- the child's record is within the slice
    pub merge-room : b ≡ true → term_words child ≤ length m.terms
    merge-room h =
        let w = within-high c.terms child (child-within m c child parent n (sym e ∙ h)) in
        let r = (ready_of m c (sym v ∙ z)).sized.term_room in
        omega arith

-- record 0 is another record
zero-away : {l l' : List ℕ} {t : ℕ} {x : Term} → TermSet l l' t x → 0 < t → zero_term l' ≡ zero_term l
unfolding zero_term
zero-away a h = let p = a.away 0 (λ e. omega arith) in let q = a.index.nexts 0 in cc

module _ (t e h r ks t' : List ℕ) (c : State) (child parent n stamp k : ℕ) (v : k ≡ audit (lent t e h r ks) c) (z : k ≡ 0)
    (b : Bool) (f : b ≡ can_merge child parent n (store_of (lent t e h r ks) c)) (y : b ≡ true) where
  pub merge-is : TermSet t t' child (under (term_at t child) parent n stamp) → PublicMerge (lent t e h r ks) (lent t' e h r ks) c child parent n stamp (Ok tt)
  unfolding call merge_classes
  merge-is j =
      let m = lent t e h r ks in
      let a : audit m c ≡ 0 = sym v ∙ z in
      let g : can_merge child parent n (store_of m c) ≡ true = sym f ∙ y in
      let w = child-within m c child parent n g in
      let p : terms_view t' c.terms ≡ merge_in (terms_view t c.terms) child parent n stamp =
      j.terms c.terms w ∙ ap (λ (x : Term). set (terms_view t c.terms) (child - 1) (under x parent n stamp)) (sym (view_term t c.terms child w)) in
      let q = j.long in
      let y₀ = zero-away j (within_low c.terms child w) in
      let d = ready_of m c a in
      let k = merged_store p q y₀ in
      record {
        says = stored p q y₀ ∙ sym (rw (a, g));
        idle = λ k o. not-merged (sym o);
        others = j.away;
        index = λ n. left_same j.index n;
        kept = λ o. audit-of (lent t' e h r ks) c (ready-after d q refl (subst Audited (sym k) (merge-kept (store_of m c) child parent n stamp d.audited g))
            (indexed-like (store_of m c) (store_of (lent t' e h r ks) c) t t' (view_count t' c.terms ∙ sym (view_count t c.terms))
            (λ u. ap (λ (s : Store). bucket s u) k ∙ bucket-like (store_of m c) _ (merge-like (terms_view t c.terms) child parent n stamp (ap (λ (i : ℕ). within i child) (view_count t c.terms) ∙ w)) u) (left_same j.index (count (store_of m c))) d.indexed));
      }
    where
      merged_store : terms_view t' c.terms ≡ merge_in (terms_view t c.terms) child parent n stamp → length t' ≡ length t → zero_term t' ≡ zero_term t
          → store_of (lent t' e h r ks) c ≡ with_terms (store_of (lent t e h r ks) c) (merge_in (terms_view t c.terms) child parent n stamp)
      merged_store p q y₀ = cc

      stored : terms_view t' c.terms ≡ merge_in (terms_view t c.terms) child parent n stamp → length t' ≡ length t → zero_term t' ≡ zero_term t
          → ok (store_of (lent t' e h r ks) c) tt ≡ merge_classes child parent n stamp (store_of (lent t e h r ks) c)
      stored p q y₀ = cc
