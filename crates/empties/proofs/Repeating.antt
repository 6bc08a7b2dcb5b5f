-- One call lists what repeated calls give.
use mathlib.Core.Path.{◌≡◌, refl, sym, ap, subst, ◌∙◌}
use mathlib.Core.Bool.{Bool, true, false, not, ◌&&◌, ◌||◌}
use mathlib.Core.List.{List, [], ◌∷◌, ◌++◌}
use mathlib.Core.Logic.{⊎_elim}
use mathlib.Core.Option.{Option, none, some}
use Prim.Native.Nat.{ℕ, zero, suc, ◌≤◌, ◌<◌}
use native.Mathlib.Omega.{arith}
use lib.ListN.{length}
use lib.IntN.{ℤ}
use lib.Dec.{eqb, leb}
use borrow.Author.Tests.{eqb-true, eq-eqb, ne_eqb, not-true, leb-true, leb-false, le-leb, lt-ltb}
use Rattle.records.specs.Lists.{all, any, concat_map, first_below, same_word, firsts, Every}
use Rattle.records.specs.Store.{Term, Store, Out, ok, stop, Work, and_then, ◌>>=◌, give, count, kind, within, is_term, is_string, is_constant, is_variable, is_concat, text, parts, chain_in, root, same_class}
use Rattle.records.specs.Rules.{list_limit, is_list, is_reason_kind, is_number}
use Rattle.records.specs.Make.{with_terms, lookup, lowest, constant_of, make_constant}
use Rattle.records.specs.Working.Audited.{Audited}
use Rattle.records.proofs.Lists.{decide, clash, either, both_left, both_right, both_true, or_none_lem, or_left, or_right, same_test, any_append, within_low, within-high, first-same, first-none, first_some, word_is, word_same, concat_map-same, concat_map-append, all_every, every_all, every_map, every_both}
use Rattle.records.proofs.Grown.{kind-term, string-term, string-here, grown-kind, grown-string}
use Rattle.records.proofs.Append
use Rattle.records.proofs.Readings.{parts-lower, parts-strings}
use Rattle.records.proofs.Kept.{Appends, found, one_term_more, after_names, MadeIn, ConstantMade}
use Rattle.records.proofs.ListLaws.{list-short, list-strings}
use Rattle.normalize.specs.Normalize.{atoms, flatten}
use Rattle.normalize.proofs.Atoms.{atoms-plain, atoms-is, flatten-fits, flatten-full}
use Rattle.sides.specs.Wordeq.{Answer, done, propagate, same, softened, closed, steps, resolve}
use Rattle.wordeq.proofs.Flattened.{neither_left, neither_right, plain_flat}
use Rattle.classes.specs.Joins.{join_in, trace_of}
use Rattle.classes.specs.Marks.{Trail}
use Rattle.classes.specs.Calls.{Outcome, gives, recorded, join_terms}
use Rattle.classes.proofs.Alike.{Like, kind-like, first-like, string-like, text-like}
use Rattle.classes.proofs.Dividing.{Joint, were, across, back}
use Rattle.classes.proofs.JoinKept.{Joinable, join_kept, join-like, join_division, join-divided}
use Rattle.empties.specs.Empties.{is_label, unmet, Parts, linked, parts_of, emptied, sides, empty_parts}
use Rattle.empties.specs.Repeats.{Entry, Listing, lists, stops, goes_on, put, landed, answered, repeated, entries, listing, Reasons, Repeats}
use Rattle.empties.proofs.Unmet.{unmet-nothing, unmet-first, unmet-few, first_passes, Agree, unmet-agree}
use Rattle.empties.proofs.Listed.{made_in, made-empty, listed-apart}
use Rattle.empties.proofs.Form.{first_not, says, Formed, form_of, formed-variables, formed-length, formed_in, formed-sides, formed-stops, formed-says, says-soft, says-closed, resolve-flat, resolve-plain}

-- THE SAME ATOMS

-- in a store where the string terms are concatenations of the same parts, or none
module _ (s s' : Store) (au : Audited s) (au' : Audited s') (c : (t : ℕ) → is_string s t ≡ true → is_concat s' t ≡ is_concat s t) (d : (t : ℕ) → kind s t ≡ 3 → parts s' t ≡ parts s t) where
  below : (n t : ℕ) → t < n → is_string s t ≡ true → atoms s' t ≡ atoms s t
  below zero t h i = absurd (omega arith)
  below (suc n) t h i =
      decide (is_concat s t)
      (λ q. let k = eqb-true (kind s t) 3 q in
      atoms-is s' au' t (c t i ∙ q) ∙ ap (concat_map (λ x. atoms s' x)) (d t k)
      ∙ concat_map-same (λ x. atoms s' x) (λ x. atoms s x) (every_map (λ x j. let f = j.0 in below n x (omega arith) j.1) (every_both (parts-lower s au.recorded t k) (parts-strings s au.recorded t k)))
      ∙ sym (atoms-is s au t q))
      (λ q. atoms-plain s' t (c t i ∙ q) ∙ sym (atoms-plain s t q))

  same-flat : (l : List ℕ) → all (is_string s) l ≡ true → concat_map (atoms s') l ≡ concat_map (atoms s) l
  same-flat l h = concat_map-same (λ x. atoms s' x) (λ x. atoms s x) (every_map (λ t i. below (suc t) t (omega arith) i) (all_every (is_string s) l h))

-- "" IS FOUND WHERE IT WAS MADE

made_found : (s : Store) (i : ℕ) → lookup (constant_of []) s ≡ some i → make_constant [] s ≡ ok s (suc i)
unfolding make_constant lowest
made_found s i e = rw e

appends-few : {s s' : Store} → Appends s s' → count s' ≤ suc (count s)
appends-few found = omega arith
appends-few (one_term_more {s} {ds} {hs} {k} {a} {b} m n) = let e = Append.longer s ds hs k a b in omega arith
appends-few (after_names m a) = appends-few a

-- the lowest-numbered "" of a store
pub record Empty (s : Store) (e : ℕ) : Type 0 where
  pub place : ℕ
  pub number : e ≡ suc place
  pub lowest : lookup (constant_of []) s ≡ some place

module _ (s s₁ : Store) (e : ℕ) (au : Audited s) (c : make_constant [] s ≡ ok s₁ e) where
  abbrev is : Store → ℕ → Bool
  is = constant_of []

  abbrev made_here : ConstantMade [] s s₁ e
  made_here = made_in s s₁ e au c

  here : is s₁ e ≡ true
  here = made-empty s s₁ e au c

  -- what is a constant "" below is one in s too
  older : (t : ℕ) → is_term s t ≡ true → is s₁ t ≡ true → is s t ≡ true
  unfolding constant_of
  older t w h =
      let o = made_here.made.grown.old t (within-high (count s) t w) in
      let k : kind s t ≡ 1 = sym (ap (λ (x : Term). x.kind) o) ∙ eqb-true (kind s₁ t) 1 (both_left (is_constant s₁ t) _ h) in
      both_true _ _ (eq-eqb (kind s t) 1 k) (word_same (text s t) [] (sym (made_here.made.grown.constants t k) ∙ word_is _ _ (both_right (is_constant s₁ t) _ h)))

  again : Empty s₁ e
  unfolding lookup within
  again = go (first_below (λ i. is s (suc i)) (count s)) refl
    where
      go : (o : Option ℕ) → first_below (λ i. is s (suc i)) (count s) ≡ o → Empty s₁ e
      go (some i) q =
          let f = sym (made_found s i q) ∙ c in
          let u : suc i ≡ e = cc in
          let v : s ≡ s₁ = cc in
          record { place = i; number = sym u; lowest = subst (λ (x : Store). first_below (λ j. is x (suc j)) (count x) ≡ some i) v q }
      go none q = at (first_below (λ i. is s₁ (suc i)) (count s₁)) refl
        where
          few : count s₁ ≤ suc (count s)
          few = appends-few made_here.made.appends

          new : (j : ℕ) → is s₁ (suc j) ≡ true → count s ≤ j
          new j h = decide (leb (count s) j) (λ y. leb-true _ _ y) (λ y. let m = leb-false (count s) j y in clash (older (suc j) (both_true _ _ (le-leb 1 (suc j) (omega arith)) (le-leb (suc j) (count s) m)) h) (first-none (λ i. is s (suc i)) (count s) q j (omega arith)))

          at : (o : Option ℕ) → first_below (λ i. is s₁ (suc i)) (count s₁) ≡ o → Empty s₁ e
          at none r = there e here (kind-term s₁ e 0 made_here.made.kind_is)
            where
              there : (x : ℕ) → is s₁ x ≡ true → is_term s₁ x ≡ true → Empty s₁ e
              there zero h w = let y = within_low (count s₁) zero w in absurd (omega arith)
              there (suc j) h w = clash h (first-none (λ i. is s₁ (suc i)) (count s₁) r j (within-high (count s₁) (suc j) w))
          at (some i) r = there e here (kind-term s₁ e 0 made_here.made.kind_is) refl
            where
              there : (x : ℕ) → is s₁ x ≡ true → is_term s₁ x ≡ true → x ≡ e → Empty s₁ e
              there zero h w z = let y = within_low (count s₁) zero w in absurd (omega arith)
              there (suc j) h w z =
                  let f = first_some (λ k. is s₁ (suc k)) (count s₁) i r in
                  let y = new i f.passes in
                  let b = f.below in
                  let n = new j h in
                  let m = within-high (count s₁) (suc j) w in
                  let k = few in
                  let g : i ≡ j = omega arith in
                  record { place = i; number = sym z ∙ ap suc (sym g); lowest = r }

-- a table of the same terms has it at the same place
empty-like : (s : Store) (us : List Term) (e : ℕ) → Like s.terms us → Empty s e → Empty (with_terms s us) e
unfolding lookup constant_of
empty-like s us e l h = record {
  place = h.place;
  number = h.number;
  lowest = ap (first_below (λ i. constant_of [] (with_terms s us) (suc i))) l.long
      ∙ first-same (λ i. constant_of [] (with_terms s us) (suc i)) (λ i. constant_of [] s (suc i)) (count s) (λ i k. constant-like (suc i)) ∙ h.lowest;
}
  where
    constant-like : (t : ℕ) → constant_of [] (with_terms s us) t ≡ constant_of [] s t
    constant-like t =
        ap (λ (k : ℕ). eqb k 1 && same_word (text (with_terms s us) t) []) (kind-like s us l t) ∙ ap (λ (w : List ℕ). is_constant s t && same_word w []) (text-like s us l t)

-- ONE CALL

variable-string : (s : Store) (v : ℕ) → is_variable s v ≡ true → is_string s v ≡ true
unfolding within
variable-string s v h = rw (eqb-true (kind s v) 2 h)

constant-string : (s : Store) (v : ℕ) → kind s v ≡ 1 → is_string s v ≡ true
unfolding within
constant-string s v h = rw h

-- a variable is the same as a constant only in its class
variable-same : (s : Store) (v e : ℕ) → is_variable s v ≡ true → kind s e ≡ 1 → same s v e ≡ same_class s v e
unfolding same
variable-same s v e h k =
    let i = eqb-true (kind s v) 2 h in
    let n : eqb v e ≡ false = ne_eqb v e (λ z. let y = ap (kind s) z in absurd (omega arith)) in
    rw (n, i)

found_here : (s : Store) (e : ℕ) → Empty s e → make_constant [] s ≡ ok s e
found_here s e k = made_found s k.place k.lowest ∙ ap (λ (x : ℕ). ok s x) (sym k.number)

module _ (l r A B p : List ℕ) (g : ℤ) where
  -- a store at which the ordinary call is made: the lists flattened, and "" there
  record Going (s : Store) (e : ℕ) : Type 0 where
    audited : Audited s
    one : all (is_string s) l ≡ true
    other : all (is_string s) r ≡ true
    left : concat_map (atoms s) l ≡ A
    right : concat_map (atoms s) r ≡ B
    formed : Formed s A B p
    constant : kind s e ≡ 1
    empty : Empty s e

  module _ (s : Store) (left : concat_map (atoms s) l ≡ A) (right : concat_map (atoms s) r ≡ B) (formed : Formed s A B p) where
    module _ (n : length A ≤ list_limit) (m : length B ≤ list_limit) where
      flat_left : flatten l s ≡ ok s A
      flat_left = flatten-fits l s (rw left n) ∙ ap (λ (x : List ℕ). ok s x) left

      flat_right : flatten r s ≡ ok s B
      flat_right = flatten-fits r s (rw right m) ∙ ap (λ (x : List ℕ). ok s x) right

      parts_are : empty_parts l r s ≡ emptied p s
      unfolding empty_parts
      parts_are = ap (and_then (λ l₁. flatten r >>= (λ r₁. sides l₁ r₁))) flat_left ∙ ap (and_then (λ r₁. sides A r₁)) flat_right ∙ formed-sides formed

      -- the steps' answer is the call's, with concatenations and without
      resolved : (o o' : Out Answer) → steps g A B s ≡ o → and_then (λ y. give (softened y)) o ≡ o → and_then (closed s.reasons) o ≡ o' → resolve l r g s ≡ o'
      resolved o o' e f h =
          decide (any (is_concat s) (l ++ r))
          (λ b. resolve-flat l r g s b ∙ ap (and_then (closed s.reasons))
          (ap (and_then (λ l₁. flatten r >>= (λ r₁. steps g l₁ r₁ >>= (λ y. give (softened y))))) flat_left
          ∙ ap (and_then (λ r₁. steps g A r₁ >>= (λ y. give (softened y)))) flat_right ∙ ap (and_then (λ y. give (softened y))) e ∙ f) ∙ h)
          (λ b. let d = sym (any_append (is_concat s) l r) ∙ b in
          let x : any (is_concat s) l ≡ false = neither_left (any (is_concat s) l) _ d in
          let y : any (is_concat s) r ≡ false = neither_right (any (is_concat s) l) _ d in
          resolve-plain l r g s b ∙ ap (and_then (closed s.reasons))
          (ap (λ (z : List ℕ). steps g z r s) (sym (plain_flat s l x) ∙ left) ∙ ap (λ (z : List ℕ). steps g A z s) (sym (plain_flat s r y) ∙ right) ∙ e) ∙ h)

      resolve_stops : {k : ℕ} → make_constant [] s ≡ stop k → resolve l r g s ≡ stop k
      resolve_stops {k} c = resolved (stop k) (stop k) (formed-stops g formed c) refl refl

      resolve_says : {s₁ : Store} {e : ℕ} → make_constant [] s ≡ ok s₁ e → all (is_variable s₁) p ≡ true → s₁.reasons ≡ s.reasons → resolve l r g s ≡ ok s₁ (says e (first_not s₁ e p))
      resolve_says {s₁} {e} c h i =
          resolved (ok s₁ (says e (first_not s₁ e p))) (ok s₁ (says e (first_not s₁ e p))) (formed-says g formed c h)
          (ap (λ (x : Answer). ok s₁ x) (says-soft e (first_not s₁ e p))) (says-closed s s₁ e (first_not s₁ e p) i)

  -- A LIST THAT IS TOO LONG: some term of it is a concatenation, and the call flattens it too

  module _ (s : Store) (left : concat_map (atoms s) l ≡ A) (right : concat_map (atoms s) r ≡ B) where
    abbrev onward : List ℕ → Work Answer
    onward l₁ = flatten r >>= (λ r₁. steps g l₁ r₁ >>= (λ y. give (softened y)))

    module _ (hl : length l ≤ list_limit) (n : list_limit < length A) where
      left_stops : flatten l s ≡ stop 6
      left_stops = flatten-full l s (rw left n)

      left_parts : empty_parts l r s ≡ stop 6
      unfolding empty_parts
      left_parts = ap (and_then (λ l₁. flatten r >>= (λ r₁. sides l₁ r₁))) left_stops

      left_full : resolve l r g s ≡ stop 6
      left_full =
          decide (any (is_concat s) (l ++ r))
          (λ b. resolve-flat l r g s b ∙ ap (λ (o : Out (List ℕ)). and_then (closed s.reasons) (and_then onward o)) left_stops)
          (λ b. let e = ap length (sym (plain_flat s l (neither_left _ _ (sym (any_append (is_concat s) l r) ∙ b))) ∙ left) in absurd (omega arith))

    module _ (hr : length r ≤ list_limit) (m : length A ≤ list_limit) (n : list_limit < length B) where
      right_stops : flatten r s ≡ stop 6
      right_stops = flatten-full r s (rw right n)

      left_flat : flatten l s ≡ ok s A
      left_flat = flatten-fits l s (rw left m) ∙ ap (λ (x : List ℕ). ok s x) left

      right_parts : empty_parts l r s ≡ stop 6
      unfolding empty_parts
      right_parts = ap (and_then (λ l₁. flatten r >>= (λ r₁. sides l₁ r₁))) left_flat ∙ ap (and_then (λ r₁. sides A r₁)) right_stops

      right_full : resolve l r g s ≡ stop 6
      right_full =
          decide (any (is_concat s) (l ++ r))
          (λ b. resolve-flat l r g s b ∙ ap (λ (o : Out (List ℕ)). and_then (closed s.reasons) (and_then onward o)) left_flat
          ∙ ap (λ (o : Out (List ℕ)). and_then (closed s.reasons) (and_then (λ r₁. steps g A r₁ >>= (λ y. give (softened y))) o)) right_stops)
          (λ b. let e = ap length (sym (plain_flat s r (neither_right (any (is_concat s) l) _ (sym (any_append (is_concat s) l r) ∙ b))) ∙ right) in absurd (omega arith))

  -- the test of the ordinary call: not of the class of ""
  module _ (s : Store) (e : ℕ) (k : Going s e) where
    each : Every (λ u. is_variable s u ≡ true) p
    each = all_every (is_variable s) p (formed-variables k.formed)

    tests : Every (λ u. not (same s u e) ≡ not (any (same_class s u) (e ∷ []))) p
    unfolding any
    tests = every_map (λ u i. ap not (variable-same s u e i k.constant ∙ sym (or_none_lem (same_class s u e)))) each

  -- A MERGE LANDED

  module _ (n : length A ≤ list_limit) (m : length B ≤ list_limit) where
    resolve_here : (s : Store) (e : ℕ) → Going s e → resolve l r g s ≡ ok s (says e (first_not s e p))
    resolve_here s e k = resolve_says s k.left k.right k.formed n m (found_here s e k.empty) (formed-variables k.formed) refl

    -- the reasons of the merges
    module _ (why : ℕ → ℕ × ℕ) (good : Reasons why) where
      next : (calls : ℕ) (s : Store) (x : Trail) (o : Out Answer) → resolve l r g s ≡ o
          → repeated (suc calls) why l r g s x ≡ answered (repeated calls why l r g) (why calls).0 (why calls).1 x o
      unfolding repeated
      next calls s x o e = ap (answered (repeated calls why l r g) (why calls).0 (why calls).1 x) e

      module _ (calls : ℕ) (s : Store) (e : ℕ) (k : Going s e) (v : ℕ) (f : first_not s e p ≡ some v) where
        variable : is_variable s v ≡ true
        variable = (first_passes s (λ u. not (same s u e)) p v (each s e k) f).1

        unlike : same_class s v e ≡ false
        unlike = sym (variable-same s v e variable k.constant) ∙ not-true (same s v e) (first_passes s (λ u. not (same s u e)) p v (each s e k) f).0

        joinable : Joinable s v e (why calls).0 (why calls).1
        joinable = record {
          one = variable-string s v variable;
          other = constant-string s e k.constant;
          kinds = both_left (is_reason_kind (why calls).0) _ (good calls);
          number = both_right (is_reason_kind (why calls).0) _ (good calls);
          apart = λ z. clash (eq-eqb (root s v) (root s e) z) unlike;
        }

        abbrev us : List Term
        us = join_in s.terms v e (why calls).0 (why calls).1

        abbrev s' : Store
        s' = with_terms s us

        like : Like s.terms us
        like = join-like s v e (why calls).0 (why calls).1 k.audited joinable

        audited' : Audited s'
        audited' = join_kept s v e (why calls).0 (why calls).1 k.audited joinable

        joins : (x : Trail) → join_terms v e (why calls).0 (why calls).1 s x ≡ gives s' (recorded (trace_of s.terms v) x) 1
        unfolding join_terms
        joins x = rw (both_true _ _ (both_true _ _ (both_true _ _ joinable.one joinable.other) joinable.kinds) joinable.number, unlike)

        strings : (w : List ℕ) → all (is_string s) w ≡ true → all (is_string s') w ≡ true
        strings w h = every_all (every_map (λ t i. string-like s us like t ∙ i) (all_every (is_string s) w h))

        flat : (w : List ℕ) → all (is_string s) w ≡ true → concat_map (atoms s') w ≡ concat_map (atoms s) w
        flat = same-flat s s' k.audited audited' (λ t i. ap (λ (x : ℕ). eqb x 3) (kind-like s us like t)) (λ t i. ap (λ (x : ℕ). firsts (chain_in s.cells x)) (first-like s us like t))

        going : Going s' e
        going = record {
          audited = audited';
          one = strings l k.one;
          other = strings r k.other;
          left = flat l k.one ∙ k.left;
          right = flat r k.other ∙ k.right;
          formed = formed_in k.formed (every_all (every_map (λ t i. ap (λ (x : ℕ). eqb x 2) (kind-like s us like t) ∙ i) (each s e k)));
          constant = kind-like s us like e ∙ k.constant;
          empty = empty-like s us e like k.empty;
        }

        term_e : is_term s e ≡ true
        term_e = string-term s e joinable.other

        together : (t : ℕ) → is_term s t ≡ true → same_class s t e || (same_class s t v || false) ≡ true → same_class s' t e ≡ true
        together t w h =
            eq-eqb (root s' t) (root s' e) (join-divided s v e (why calls).0 (why calls).1 k.audited joinable t e w term_e
            (⊎_elim (λ y. were (eqb-true _ _ y)) (λ y. across (eqb-true _ _ (sym (or_none_lem (same_class s t v)) ∙ y)) refl) (either (same_class s t e) _ h)))

        apart : (t : ℕ) → is_term s t ≡ true → same_class s' t e ≡ true → same_class s t e || (same_class s t v || false) ≡ true
        apart t w h = by (join_division s v e (why calls).0 (why calls).1 k.audited joinable t e w term_e (eqb-true _ _ h))
          where
            by : Joint (root s) v e t e → same_class s t e || (same_class s t v || false) ≡ true
            by (were y) = or_left _ (same_class s t v || false) (eq-eqb (root s t) (root s e) y)
            by (across y z) = or_right (same_class s t e) _ (or_left _ false (eq-eqb (root s t) (root s v) y))
            by (back y z) = or_left _ (same_class s t v || false) (eq-eqb (root s t) (root s e) y)

        agree : Agree (λ t. is_term s t ≡ true) s s' (e ∷ v ∷ []) (e ∷ [])
        unfolding any
        agree = record {
          same = λ t w. same_test (same_class s t e || (same_class s t v || false)) (same_class s' t e || false) (λ h. or_left _ false (together t w h)) (λ h. apart t w (sym (or_none_lem (same_class s' t e)) ∙ h));
          others = λ t u w y h i. same_test (same_class s t u) (same_class s' t u)
              (λ z. eq-eqb (root s' t) (root s' u) (join-divided s v e (why calls).0 (why calls).1 k.audited joinable t u w y (were (eqb-true _ _ z))))
              (λ z. kept t u h (join_division s v e (why calls).0 (why calls).1 k.audited joinable t u w y (eqb-true _ _ z)));
        }
          where
            kept : (t u : ℕ) → same_class s t e || (same_class s t v || false) ≡ false → Joint (root s) v e t u → same_class s t u ≡ true
            kept t u h (were y) = eq-eqb (root s t) (root s u) y
            kept t u h (across y z) = clash (or_right (same_class s t e) _ (or_left _ false (eq-eqb (root s t) (root s v) y))) h
            kept t u h (back y z) = clash (or_left _ (same_class s t v || false) (eq-eqb (root s t) (root s e) y)) h

        -- the first is listed, and the others are those of the store after its merge
        lists_on : unmet s (e ∷ []) p ≡ v ∷ unmet s' (e ∷ []) p
        lists_on = unmet-first s (λ u. not (same s u e)) (e ∷ []) p v (tests s e k) f
            ∙ ap (λ (x : List ℕ). v ∷ x) (unmet-agree s s' (e ∷ v ∷ []) (e ∷ []) p (every_map (λ t i. string-term s t (variable-string s t i)) (each s e k)) agree)

      -- CALL AFTER CALL

      -- one call more than what is left lists it, and ends in Done
      abbrev rest : Store → ℕ → Listing
      rest s e = lists (entries e true (unmet s (e ∷ []) p)) done

      abbrev Lists : ℕ → Type 0
      Lists calls = (s : Store) (e : ℕ) → Going s e → (x : Trail) → length (unmet s (e ∷ []) p) < calls → repeated calls why l r g s x ≡ rest s e

      turn : (calls : ℕ) → Lists calls → (s : Store) (e : ℕ) → Going s e → (x : Trail) → length (unmet s (e ∷ []) p) < suc calls
          → (o : Option ℕ) → first_not s e p ≡ o → repeated (suc calls) why l r g s x ≡ rest s e
      turn calls later s e k x h none f = next calls s x (ok s done) (resolve_here s e k ∙ ap (λ (o : Option ℕ). ok s (says e o)) f)
          ∙ ap (λ (w : List ℕ). lists (entries e true w) done) (sym (unmet-nothing s (λ u. not (same s u e)) (e ∷ []) p (tests s e k) f))
      turn calls later s e k x h (some v) f =
          let q = lists_on calls s e k v f in
          let n = ap length q in
          next calls s x (ok s (propagate v e true)) (resolve_here s e k ∙ ap (λ (o : Option ℕ). ok s (says e o)) f)
          ∙ ap (λ (o : Outcome). put (record { variable = v; word = e; link = true }) (landed (repeated calls why l r g) o)) (joins calls s e k v f x)
          ∙ ap (put (record { variable = v; word = e; link = true })) (later (s' calls s e k v f) e (going calls s e k v f) (recorded (trace_of s.terms v) x) (omega arith))
          ∙ ap (λ (w : List ℕ). lists (entries e true w) done) (sym q)

      loop : (calls : ℕ) → Lists calls
      unfolding repeated
      loop zero s e k x h = absurd (omega arith)
      loop (suc calls) s e k x h = turn calls (loop calls) s e k x h (first_not s e p) refl

-- FROM ANY AUDITED STORE

-- 'The link flag holds for all entries': where there is one it is set
flag-held : (e : ℕ) (l : List ℕ) → entries e (linked (length l)) l ≡ entries e true l
flag-held e [] = refl
flag-held e (v ∷ l) = ap (λ (b : Bool). entries e b (v ∷ l)) (lt-ltb 0 (length (v ∷ l)) (omega arith))

module _ (l r : List ℕ) (s : Store) (au : Audited s) (hl : is_list s l ≡ true) (hr : is_list s r ≡ true) where
  abbrev A : List ℕ
  A = concat_map (atoms s) l

  abbrev B : List ℕ
  B = concat_map (atoms s) r

  -- the store after "" was made is one at which the call is made
  module _ (p : List ℕ) (formed : Formed s A B p) (g : ℤ) (s₁ : Store) (e : ℕ) (c : make_constant [] s ≡ ok s₁ e) where
    abbrev made : MadeIn s s₁ e 1
    made = (made_in s s₁ e au c).made

    kept : (t : ℕ) → is_string s t ≡ true → kind s₁ t ≡ kind s t
    kept t i = ap (λ (x : Term). x.kind) (made.grown.old t (string-here s t i))

    parts-variable : all (is_variable s₁) p ≡ true
    parts-variable = every_all (every_map (λ t i. eq-eqb (kind s₁ t) 2 (grown-kind made.grown t 1 (eqb-true (kind s t) 2 i))) (all_every (is_variable s) p (formed-variables formed)))

    flat_on : (w : List ℕ) → all (is_string s) w ≡ true → concat_map (atoms s₁) w ≡ concat_map (atoms s) w
    flat_on = same-flat s s₁ au made.audited (λ t i. ap (λ (x : ℕ). eqb x 3) (kept t i)) (λ t i. made.grown.concats t i)

    strings-on : (w : List ℕ) → all (is_string s) w ≡ true → all (is_string s₁) w ≡ true
    strings-on w h = every_all (every_map (λ t i. grown-string made.grown t i) (all_every (is_string s) w h))

    begun : Going l r A B p g s₁ e
    begun = record {
      audited = made.audited;
      one = strings-on l (list-strings s l hl);
      other = strings-on r (list-strings s r hr);
      left = flat_on l (list-strings s l hl);
      right = flat_on r (list-strings s r hr);
      formed = formed_in formed parts-variable;
      constant = made.kind_is;
      empty = again s s₁ e au c;
    }

    emptied-is : emptied p s ≡ ok s₁ (parts_of e (unmet s₁ (e ∷ []) p))
    unfolding emptied
    emptied-is = ap (and_then (λ x s₂. ok s₂ (parts_of x (unmet s₂ (x ∷ []) p)))) c

  emptied-stops : (p : List ℕ) {k : ℕ} → make_constant [] s ≡ stop k → emptied p s ≡ stop k
  unfolding emptied
  emptied-stops p c = ap (and_then (λ x s₂. ok s₂ (parts_of x (unmet s₂ (x ∷ []) p)))) c

  module _ (why : ℕ → ℕ × ℕ) (good : Reasons why) (g : ℤ) (x : Trail) (p : List ℕ) (formed : Formed s A B p) where
    -- the two lists fit
    fitting : (calls : ℕ) → length p < suc calls → length A ≤ list_limit → length B ≤ list_limit → repeated (suc calls) why l r g s x ≡ listing (empty_parts l r s)
    fitting calls h n m = go (make_constant [] s) refl
      where
        is-parts : empty_parts l r s ≡ emptied p s
        is-parts = parts_are l r A B p g s refl refl formed n m

        go : (o : Out ℕ) → make_constant [] s ≡ o → repeated (suc calls) why l r g s x ≡ listing (empty_parts l r s)
        go (stop k) c =
            next l r A B p g n m why good calls s x (stop k) (resolve_stops l r A B p g s refl refl formed n m c)
            ∙ ap listing (sym (is-parts ∙ emptied-stops p c))
        go (ok s₁ e) c =
            let k = begun p formed g s₁ e c in
            let o = ok s₁ (says e (first_not s₁ e p)) in
            let f = unmet-few s₁ (e ∷ []) p in
            next l r A B p g n m why good calls s x o (resolve_says l r A B p g s refl refl formed n m c (parts-variable p formed g s₁ e c) (made p formed g s₁ e c).reasons)
            ∙ sym (next l r A B p g n m why good calls s₁ x o (resolve_here l r A B p g n m s₁ e k))
            ∙ loop l r A B p g n m why good (suc calls) s₁ e k x (omega arith)
            ∙ ap (λ (w : List Entry). lists w done) (sym (flag-held e (unmet s₁ (e ∷ []) p)))
            ∙ ap listing (sym (is-parts ∙ emptied-is p formed g s₁ e c))

    all_calls : (calls : ℕ) → length p < calls → repeated calls why l r g s x ≡ listing (empty_parts l r s)
    unfolding repeated
    all_calls zero h = absurd (omega arith)
    all_calls (suc calls) h =
        decide (leb (length A) list_limit)
        (λ i. let n = leb-true _ _ i in
        decide (leb (length B) list_limit)
        (λ j. fitting calls h n (leb-true _ _ j))
        (λ j. let m = leb-false _ _ j in full (right_full l r A B p g s refl refl (list-short s r hr) n m) (right_parts l r A B p g s refl refl (list-short s r hr) n m)))
        (λ i. let n = leb-false _ _ i in full (left_full l r A B p g s refl refl (list-short s l hl) n) (left_parts l r A B p g s refl refl (list-short s l hl) n))
      where
        full : resolve l r g s ≡ stop 6 → empty_parts l r s ≡ stop 6 → repeated (suc calls) why l r g s x ≡ listing (empty_parts l r s)
        full e f = ap (answered (repeated calls why l r g) (why calls).0 (why calls).1 x) e ∙ ap listing (sym f)

  pub repeats-list : is_label s l r ≡ true → (calls : ℕ) → length (concat_map (atoms s) (l ++ r)) < calls → (why : ℕ → ℕ × ℕ) → Reasons why → (g : ℤ) (x : Trail) → repeated calls why l r g s x ≡ listing (empty_parts l r s)
  unfolding is_label
  repeats-list h calls n why good g x =
      let f = form_of s A B h in
      let i = ap length (concat_map-append (λ t. atoms s t) l r) in
      let j = formed-length f.formed in
      all_calls why good g x f.parts f.formed calls (omega arith)

-- NOTHING LISTED: the first of the calls gave no Propagate

put_some : (v : Entry) (z : Listing) → put v z ≡ lists [] done → ⊥
put_some v (lists w a) e = let i : ◌≡◌ {A = List Entry} (v ∷ w) [] = cc in let n = ap length i in absurd (omega arith)
put_some v (stops k) e = let z : ◌≡◌ {A = ℕ} 0 1 = cc in absurd (omega arith)
put_some v goes_on e = let z : ◌≡◌ {A = ℕ} 0 1 = cc in absurd (omega arith)

-- no marks
abbrev unmarked : Trail
unmarked = record { marks = []; joins = [] }

module _ (l r : List ℕ) (s : Store) (au : Audited s) (hl : is_list s l ≡ true) (hr : is_list s r ≡ true) where
  pub repeats-none : is_label s l r ≡ true → (s' : Store) (x : Parts) → empty_parts l r s ≡ ok s' x → x.listed ≡ []
      → (g : ℤ) (s'' : Store) (v w : ℕ) (f : Bool) → resolve l r g s ≡ ok s'' (propagate v w f) → ⊥
  unfolding repeated is_number
  repeats-none h s' x e i g s'' v w f q =
      let n = suc (length (concat_map (atoms s) (l ++ r))) in
      put_some (record { variable = v; word = w; link = f }) (landed (repeated (length (concat_map (atoms s) (l ++ r))) (λ j. (1, 0)) l r g) (join_terms v w 1 0 s'' unmarked))
      (ap (answered (repeated (length (concat_map (atoms s) (l ++ r))) (λ j. (1, 0)) l r g) 1 0 unmarked) (sym q)
      ∙ repeats-list l r s au hl hr h n (omega arith) (λ j. (1, 0)) reasons g unmarked ∙ ap listing e
      ∙ ap (λ (u : List ℕ). lists (entries x.empty x.link u) done) i)
    where
      reasons : Reasons (λ j. (1, 0))
      reasons j = refl

-- ALL THREE

pub repeats : (l r : List ℕ) (s : Store) → Audited s → is_list s l ≡ true → is_list s r ≡ true → Repeats s l r (empty_parts l r s)
repeats l r s au hl hr = record {
  list = repeats-list l r s au hl hr;
  none = repeats-none l r s au hl hr;
  apart = listed-apart l r s;
}
