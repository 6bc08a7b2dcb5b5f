-- An answer of wordeq, told in words.
use Rattle.std.specs.Prelude.{Result, Ok}
use mathlib.Core.Path.{◌≡◌, refl, sym, ap, subst, ◌∙◌}
use mathlib.Core.Bool.{Bool, true, false, ◌&&◌}
use mathlib.Core.List.{List, [], ◌∷◌}
use mathlib.Core.Logic.{inl, ⊎_elim}
use Prim.Native.Nat.{ℕ, zero, suc, ◌+◌, ◌≤◌, ◌<◌}
use native.Mathlib.Omega.{arith}
use native.Mathlib.Decide.{dec_le}
use native.Mathlib.Nat.{min_comm, min-eq_left, eq-or-lt_of_le}
use lib.Seq.{length-take-le}
use lib.ListN.{length, get_or, take, length-take}
use lib.IntN.{ℤ, pos, negsuc, neg_ℤ}
use lib.Dec.{eqb, leb}
use borrow.Author.Tests.{not-true, eqb-false}
use mir.Syntax.{w32}
use mir.Val.{to_z, of_z, SFits}
use mir.ValLaws.{to_z-of_z}
use Rattle.records.specs.declared.State.{State}
use Rattle.records.specs.declared.refusal.Refusal.{Refusal}
use Rattle.records.specs.Lists.{all}
use Rattle.records.specs.Store.{Store, ok, Work, count, is_string}
use Rattle.records.specs.View.{Lent, store_of}
use Rattle.records.specs.Rules.{list_limit, is_list}
use Rattle.records.proofs.Lists.{both_left, both_right, table-length}
use Rattle.normalize.specs.Calls.{list_call, PublicList}
use Rattle.sides.specs.declared.StepResult.{StepResult}
use Rattle.sides.specs.declared.StepResult.TheVariants as step
use Rattle.sides.specs.Wordeq.{Answer, done, saturated, conflict, propagate, split, resolve, resolve_arguments, is_guard}
use Rattle.sides.specs.Meaning.{Sound}
use Rattle.sides.specs.Repeated.{Repeated, Decides}
use Rattle.wordeq.specs.Calls.{PublicResolve, resolved}
use Rattle.sides.proofs.Resolve.{resolve-kept}
use Rattle.sides.proofs.FewAtoms.{Few, resolve-few}
use Rattle.capi.specs.Interface.{state_of, state_room, answer_room, roomy, over, told}
use Rattle.capi.specs.Equations.{flag, answer_words, answer_by, answer_read, ExportedResolve}
use Rattle.capi.specs.Working.Leaves.{written, Narrow, NarrowAnswer, Telling, tells, or_refuses, ToldBy, answer_telling}
use Rattle.capi.proofs.Exports.{Tells, Shows, shows_or}
use Rattle.capi.proofs.Listings.{list-gives, list-room, list_tellable, list_exported, list-worth, list-once, untold_list}

-- THE WORK

module _ (s : Store) (l r : List ℕ) (b : Bool) (f : is_list s l && is_list s r && b ≡ true) where
  pub left-strings : all (is_string s) l ≡ true
  left-strings = both_right (leb (length l) list_limit) _ (both_left (is_list s l) _ (both_left (is_list s l && is_list s r) _ f))

  pub right-strings : all (is_string s) r ≡ true
  right-strings = both_right (leb (length r) list_limit) _ (both_right (is_list s l) _ (both_left (is_list s l && is_list s r) _ f))

pub resolve-tells : (l r : List ℕ) (g : ℤ) → Tells (resolve_arguments l r g) (resolve l r g)
resolve-tells l r g = record {
  keeps = λ s s' x a f e. resolve-kept l r g s a (left-strings s l r _ f) (right-strings s l r _ f) s' x e;
}

-- a guard that can be negated fits so
pub opposite_fits : (g : ℤ) → is_guard g ≡ true → SFits w32 g → SFits w32 (neg_ℤ g)
unfolding is_guard
opposite_fits (pos zero) h f = let z : ◌≡◌ {A = Bool} false true = h in let y : ◌≡◌ {A = ℕ} 0 1 = cc in absurd (omega arith)
opposite_fits (pos (suc n)) h f = let k : suc n < 0x8000_0000 = f.sfits in record { sfits = fits n k }
  where
    fits : (n : ℕ) → suc n < 0x8000_0000 → n < 0x8000_0000
    fits n k = omega arith
opposite_fits (negsuc n) h f = let k : n < 0x8000_0000 = f.sfits in record { sfits = fits n k (eqb-false n 0x7FFF_FFFF (not-true _ h)) }
  where
    fits : (n : ℕ) → n < 0x8000_0000 → (n ≡ 0x7FFF_FFFF → ⊥) → suc n < 0x8000_0000
    fits n k d = let j : n ≤ 0x7FFF_FFFF = omega arith in ⊎_elim (λ e. absurd (d e)) (λ e. omega arith) (eq-or-lt_of_le j)

-- ITS WORDS

pub flag-back : (f : Bool) → eqb (flag f) 1 ≡ f
flag-back true = refl
flag-back false = refl

-- a Split whose atoms stand in the slice
pub record StandsIn (n : ℕ) (g : ℤ) (k' : List ℕ) : Type 0 where
  pub here : n ≤ length k'
  pub three : n ≤ 3
  pub guard : SFits w32 g

-- few atoms, in a slice with room for a list
pub stands_in : (g h : ℤ) → is_guard g ≡ true → SFits w32 g → (n : ℕ) (k k' : List ℕ) → length (take n k') ≤ 3 → h ≡ neg_ℤ g → length k' ≡ length k → list_limit ≤ length k → StandsIn n h k'
stands_in g h guarded fit n k k' i q same j = by (dec_le n (length k'))
  where
    by : Dec (n ≤ length k') → StandsIn n h k'
    by (yes y) = let p = length-take-le n k' y in record { here = y; three = omega arith; guard = subst (SFits w32) (sym q) (opposite_fits g guarded fit) }
    by (no y) =
        let z : length k' ≤ n = omega arith in
        let p = length-take n k' ∙ min_comm n (length k') ∙ min-eq_left z in
        absurd (omega arith)

pub record Stands (r : StepResult) (k' : List ℕ) : Type 0 where
  pub split : (c : State) (n : ℕ) (g : ℤ) (j : ℕ) → r ≡ step.Split c n g j → StandsIn n g k'

-- the Split of a call whose answers are wordeq's, under `says`
module _ {A : Type 0} {fit : Store → Bool} {work : Work A} (can : Tells fit work) (says : Answer → A) (g : ℤ) (fits : SFits w32 g) (guarded : (s : Store) → fit s ≡ true → is_guard g ≡ true)
    (few : (s s' : Store) (x : Answer) → work s ≡ ok s' (says x) → Few g x) (m m' : Lent) (k k' : List ℕ) (c : State) (same : length k' ≡ length k) where
  pub split-stands : (d : State) (n : ℕ) (h : ℤ) (j : ℕ) → list_call k fit work m c ≡ ok (store_of m' d) (says (split (take n k') h j)) → StandsIn n h k'
  split-stands d n h j e = stands_in g h guard fits n k k' long.0 long.1 same (list-room can m k c _ _ e)
    where
      long : Few g (split (take n k') h j)
      long =
          list-gives can m k c {P = λ s y. (x : Answer) → y ≡ says x → Few g x} (λ s s' y a f q x i. few s s' x (q ∙ ap (ok s') i)) (store_of m' d) (says (split (take n k') h j)) e
          (split (take n k') h j) refl

      guard : is_guard g ≡ true
      guard = list-gives can m k c {P = λ s x. is_guard g ≡ true} (λ s s' x a f q. guarded s f) (store_of m' d) (says (split (take n k') h j)) e

-- the counts and the Split of an answer are narrow
pub answer_narrow : (r : StepResult) {k' : List ℕ} → ((c : State) (v : List ℕ) → answer_telling r ≡ tells c v → Narrow c) → Stands r k' → NarrowAnswer r
answer_narrow r f i = record { counts = f; split = λ d n h u e. (let j = i.split d n h u e in let p = j.three in record { list = omega arith; guard = j.guard }) }

pub answer-shows : (r : StepResult) (m' : Lent) (k' : List ℕ) → Stands r k' → Shows answer_room answer_words (answer_read k') m' (resolved (Ok r) m' k') (answer_telling r)
answer-shows (step.Done c) m' k' i = record { value = done; outcome = refl; spelt = refl; few = omega arith; back = λ z. refl }
answer-shows (step.Saturated c) m' k' i = record { value = saturated; outcome = refl; spelt = refl; few = omega arith; back = λ z. refl }
answer-shows (step.Conflict c) m' k' i = record { value = conflict; outcome = refl; spelt = refl; few = omega arith; back = λ z. refl }
answer-shows (step.Propagate c v x f) m' k' i = record { value = propagate v x f; outcome = refl; spelt = refl; few = omega arith; back = λ z. ap (propagate v x) (flag-back f) }
answer-shows (step.Split c n g u) m' k' i =
    let j = i.split c n g u refl in
    record {
      value = split (take n k') g u;
      outcome = refl;
      spelt = ap (λ (x : ℕ). 4 ∷ x ∷ of_z w32 g ∷ u ∷ []) (sym (length-take-le n k' j.here));
      few = omega arith;
      back = λ z. ap (λ (x : ℤ). split (take n k') x u) (to_z-of_z w32 g j.guard);
    }

-- RESOLVE_EQUATION

abbrev pub resolve_telling : Result StepResult Refusal → Telling State
resolve_telling r = or_refuses answer_telling r

pub resolve_untold : (l r : List ℕ) (g : ℤ) (m : Lent) (k w a : List ℕ) → roomy state_room w a ≡ false → {n : ℕ} → n ≡ 1 → ExportedResolve l r g m m k k w w a a n
resolve_untold l r g m k w a e i = rw i (record {
  is = untold_list _ answer_words m k w a _ e refl;
  worth = λ z. absurd (omega arith);
  once = λ z. absurd (omega arith);
  grows = λ z y. absurd (omega arith);
  decides = λ v f j. absurd (j 1 refl (inl (omega arith)));
})

-- the terms counted are those of the state
pub counted : (m : Lent) (w : List ℕ) → count (store_of m (state_of w)) ≡ get_or w 0 0
counted m w = table-length _ (get_or w 0 0)

module _ {l r : List ℕ} {g : ℤ} {m m' : Lent} {k k' : List ℕ} {c : State} (o : Result StepResult Refusal) (fit : SFits w32 g)
    (public : PublicResolve l r (to_z w32 (of_z w32 g)) m m' k k' c (resolved o m' k')) (same : length k' ≡ length k) where
  here : PublicResolve l r g m m' k k' c (resolved o m' k')
  here = subst (λ (x : ℤ). PublicResolve l r x m m' k k' c (resolved o m' k')) (to_z-of_z w32 g fit) public

  called : PublicList (list_call k (resolve_arguments l r g) (resolve l r g) m c) m m' k k' c (resolved o m' k')
  called = here.is

  stands : (x : StepResult) → o ≡ Ok x → Stands x k'
  stands x i = record {
    split = λ d n h j e. split-stands (resolve-tells l r g) (λ y. y) g fit (λ s f. both_right (is_list s l && is_list s r) _ f) (λ s s' y q. (resolve-few g l r s).given s' y q) m m' k k' c same d n h j (sym called.store.says ∙ ap (λ (y : Result StepResult Refusal). resolved y m' k') (i ∙ ap Ok e));
  }

  shows : Shows answer_room answer_words (answer_read k') m' (resolved o m' k') (resolve_telling o)
  shows = shows_or answer_room answer_words (answer_read k') m' (λ y. resolved y m' k') answer_telling (λ e. refl) o (λ x i. answer-shows x m' k' (stands x i))

  pub resolve_tellable : (x : StepResult) → o ≡ Ok x → NarrowAnswer x
  resolve_tellable x i = answer_narrow x
      (λ d v e. list_tellable (resolve-tells l r g) called answer_words (answer_read k') (resolve_telling o) shows d v (ap resolve_telling i ∙ e)) (stands x i)

  pub resolve_exported : {w w' a a' : List ℕ} {n : ℕ} → roomy state_room w a ≡ true → c ≡ state_of w → ToldBy written resolve_telling w w' a a' o n
      → ExportedResolve l r g m m' k k' w w' a a' n
  resolve_exported {w} {w'} {a} {a'} {n} room e u =
      let x = list_exported (resolve-tells l r g) called answer_words (answer_read k') (resolve_telling o) shows room e u.is in
      let q : told n w' m' (answer_read k' a') ≡ resolved o m' k' =
      x.is.is.public.says ∙ ap (λ (b : Bool). over b (list_call k (resolve_arguments l r g) (resolve l r g) m (state_of w))) room
      ∙ ap (λ (d : State). list_call k (resolve_arguments l r g) (resolve l r g) m d) (sym e) ∙ sym called.store.says in
      record {
        is = x;
        worth = list-worth (resolve-tells l r g) called answer_words (answer_read k') (resolve_telling o) shows room e u.is (λ d s' y. Sound (store_of m d) s' l r y) here.worth;
        once = list-once (resolve-tells l r g) called answer_words (answer_read k') (resolve_telling o) shows room e u.is here.once;
        grows = λ z y. grown z y;
        decides = λ v f i. subst (λ (d : State). Decides (store_of m d) l r (told n w' m' (answer_read k' a'))) e
            (subst (Decides (store_of m c) l r) (sym q) (here.decides v (subst (λ (d : State). Repeated (store_of m d) v l r) (sym e) f) (λ j z. i j (q ∙ z))));
      }
    where
      Grown : State → Store → Answer → Type 0
      Grown d s' x = (atoms : List ℕ) (h : ℤ) (i : ℕ) → x ≡ split atoms h i → count s' ≡ i + count (store_of m d)

      grown : n ≡ 0 → get_or a' 0 0 ≡ 4 → get_or w' 0 0 ≡ get_or a' 3 0 + get_or w 0 0
      grown z y =
          let f = list-worth (resolve-tells l r g) called answer_words (answer_read k') (resolve_telling o) shows room e u.is Grown (λ s' x q atoms h i p. here.grows s' atoms h i (q ∙ ap (ok s') p)) z in
          sym (counted m' w') ∙ f _ _ _ (ap (λ (j : ℕ). answer_by j k' a') y) ∙ ap (λ (j : ℕ). get_or a' 3 0 + j) (counted m w)
