-- Step 4: its tests of the two lists, and the ways through it.
use mathlib.Core.Path.{◌≡◌, refl, sym, ap, ◌∙◌}
use mathlib.Core.Bool.{Bool, true, false, not, ◌&&◌}
use mathlib.Core.List.{List, [], ◌∷◌}
use mathlib.Core.Option.{Option, none, some}
use Prim.Native.Nat.{ℕ, ◌+◌, ◌≤◌, ◌<◌}
use native.Mathlib.Omega.{arith}
use lib.ListN.{length, get_or, drop, drop_of_length-le}
use lib.Dec.{eqb, leb}
use borrow.Author.Tests.{eqb-true, leb-true}
use Rattle.records.specs.declared.State.{State}
use Rattle.std.specs.Prelude.{Ok, Err}
use Rattle.records.specs.declared.refusal.Refusal.{Refusal}
use Rattle.records.specs.Refusal.{number}
use Rattle.records.specs.Lists.{all, first_of, Every}
use Rattle.records.specs.Store.{Store, Out, ok, stop, and_then, within, kind, is_variable, is_string}
use Rattle.records.specs.View.{Lent, store_of, read_in, termed}
use Rattle.records.specs.Make.{make_constant}
use Rattle.records.specs.Working.Audited.{Ready}
use Rattle.records.specs.Working.Doing.{Working}
use Rattle.records.proofs.Lists.{both_left, both_right, failed, passed, every_map, all_every, drop_head}
use Rattle.records.proofs.Grown.{grown-string}
use Rattle.records.proofs.Kept.{made-string}
use Rattle.records.proofs.Doing.{working_at, working_is, constant-fit, working_answer}
use Rattle.records.proofs.Works.{one_store}
use Rattle.sides.specs.declared.StepResult.{StepResult}
use Rattle.sides.specs.declared.StepResult.TheVariants as step
use Rattle.sides.specs.Wordeq.{Answer, Tried, same, fixed, letters, empties, empties_at, assigns}
use Rattle.sides.specs.Working.Results.{tried, Tries}
use Rattle.sides.specs.Working.Stripping.{Pair}
use Rattle.wordeq.specs.Working.Propagates.{emptied, linked}
use Rattle.wordeq.proofs.Refines.SplitAtoms.{no_characters}
use Rattle.wordeq.proofs.Refines.PropagateMakes.{assigns-made}

-- THE FIRST VARIABLE THAT IS NOT THE SAME

first_hit : (p : ℕ → Bool) (a : ℕ) (l : List ℕ) → p a ≡ true → first_of p (a ∷ l) ≡ some a
unfolding first_of
first_hit p a l h = rw (h, first_of)

first_next : (p : ℕ → Bool) (a : ℕ) (l : List ℕ) → p a ≡ false → first_of p (a ∷ l) ≡ first_of p l
unfolding first_of
first_next p a l h = rw (h, first_of)

module _ (s : Store) (c : State) (l : List ℕ) (w i : ℕ) (h : first_of (λ v. not (same s v w)) (drop i l) ≡ first_of (λ v. not (same s v w)) l) where
  pub linked-none : length l ≤ i → step.Done c ≡ linked c w (first_of (λ v. not (same s v w)) l)
  unfolding first_of
  linked-none q = let e : first_of (λ v. not (same s v w)) l ≡ none = sym h ∙ rw (drop_of_length-le l q) in rw e

  module _ (q : i < length l) (x : Bool) (e : x ≡ same s (get_or l i 0) w) where
    linked-at : first_of (λ v. not (same s v w)) l ≡ first_of (λ v. not (same s v w)) (get_or l i 0 ∷ drop (i + 1) l)
    linked-at = sym h ∙ ap (first_of (λ v. not (same s v w))) (drop_head l i q)

    pub linked-first : not x ≡ true → step.Propagate c (get_or l i 0) w true ≡ linked c w (first_of (λ v. not (same s v w)) l)
    linked-first n = sym (ap (linked c w) (linked-at ∙ first_hit (λ v. not (same s v w)) (get_or l i 0) (drop (i + 1) l) (ap not (failed _ x e n))))

    pub linked-turn : not x ≡ false → first_of (λ v. not (same s v w)) (drop (i + 1) l) ≡ first_of (λ v. not (same s v w)) l
    linked-turn n = sym (linked-at ∙ first_next (λ v. not (same s v w)) (get_or l i 0) (drop (i + 1) l) (ap not (passed _ x e n)))

-- EMPTY AGAINST TWO OR MORE VARIABLES

pub emptied-parts : (s : Store) (l r : List ℕ) → emptied s l r ≡ true → (length l ≡ 0) × (2 ≤ length r) × (all (is_variable s) r ≡ true)
emptied-parts s l r h = (eqb-true _ _ (both_left _ _ (both_left _ _ h)), leb-true _ _ (both_right (eqb (length l) 0) _ (both_left _ _ h)), both_right (eqb (length l) 0 && leb 2 (length r)) _ h)

-- what follows the word ""
abbrev following : List ℕ → ℕ → Tried
following r e s = empties_at e (first_of (λ v. not (same s v e)) r) s

empties-is : (s : Store) (r : List ℕ) → 2 ≤ length r → all (is_variable s) r ≡ true → empties [] r s ≡ and_then (following r) (make_constant [] s)
unfolding empties
empties-is s [] n h = absurd (omega arith)
empties-is s (a ∷ []) n h = absurd (omega arith)
empties-is s (a ∷ b ∷ r) n h = rw h

variable-string : (s : Store) (v : ℕ) → is_variable s v ≡ true → is_string s v ≡ true
unfolding within
variable-string s v h = rw (eqb-true (kind s v) 2 h)

empties_shape : (m : Lent) (c : State) (l : List ℕ) → emptied (termed m.terms c) [] l ≡ true → empties [] l (store_of m c) ≡ and_then (following l) (make_constant [] (store_of m c))
empties_shape m c l h = let p = emptied-parts (store_of m c) [] l h in empties-is (store_of m c) l p.1 p.2

module _ {m m₁ : Lent} {c : State} (l : List ℕ) (h : emptied (termed m.terms c) [] l ≡ true) where
  empties-made : {o : Out ℕ} → Working (make_constant []) m m₁ c o → Working (empties [] l) m m₁ c (and_then (following l) o)
  empties-made w = working_is (empties_shape m c l h) (working_answer (following l) (λ t s s' a i. idle t (first_of (λ v. not (same s v t)) l) i) w)
    where
      idle : (t : ℕ) (o : Option ℕ) {s s' : Store} {a : Option Answer} → empties_at t o s ≡ ok s' a → s ≡ s'
      idle t none i = one_store i
      idle t (some v) i = one_store i

  pub empties-stop : {e : Refusal} → Working (make_constant []) m m₁ c (stop (number e)) → Tries (empties [] l) m m₁ c (Err e)
  empties-stop w = record { is = λ k. empties-made w }

  module _ {t : ℕ} (d : State) (w : Working (make_constant []) m m₁ c (ok (store_of m₁ d) t)) where
    linked-tried : (k : List ℕ) (o : Option ℕ) → empties_at t o (store_of m₁ d) ≡ tried (Ok (linked d t o)) m₁ k
    linked-tried k none = refl
    linked-tried k (some v) = refl

    pub empties-done : {o : StepResult} → o ≡ linked d t (first_of (λ v. not (same (read_in m₁.terms m₁.chars d) v t)) l) → Tries (empties [] l) m m₁ c (Ok o)
    unfolding same
    empties-done {o} f = record {
      is = λ k. working_at (linked-tried k (first_of (λ v. not (same (store_of m₁ d) v t)) l) ∙ ap (λ (z : StepResult). tried (Ok z) m₁ k) (sym f)) (empties-made w);
    }

    pub empties-pairs : Ready m c → Every (λ v. Pair (read_in m₁.terms m₁.chars d) v t) l
    unfolding within
    empties-pairs ready =
        let x = constant-fit (store_of m c) (store_of m₁ d) t ready.audited [] no_characters w.says in
        every_map (λ v i. record { one = grown-string x.grown v (variable-string (store_of m c) v i); other = made-string x refl })
        (all_every (is_variable (store_of m c)) l (emptied-parts (store_of m c) [] l h).2)

-- A LONE VARIABLE AGAINST CONSTANTS

both-whole : (m : Lent) (c : State) (a : ℕ) (l : List ℕ) → is_variable (termed m.terms c) a && fixed (termed m.terms c) l ≡ true → is_variable (store_of m c) a && fixed (store_of m c) l ≡ true
unfolding fixed
both-whole m c a l h = h

module _ {m m₁ : Lent} {c : State} (a : ℕ) (l : List ℕ) (h : is_variable (termed m.terms c) a && fixed (termed m.terms c) l ≡ true) where
  pub assigned-done : {t : ℕ} {d : State} → Working (λ s. make_constant (letters s l) s) m m₁ c (ok (store_of m₁ d) t) → Tries (assigns (a ∷ []) l) m m₁ c (Ok (step.Propagate d a t false))
  assigned-done w = record { is = λ k. assigns-made a l (both-whole m c a l h) w }

  pub assigned-stop : {e : Refusal} → Working (λ s. make_constant (letters s l) s) m m₁ c (stop (number e)) → Tries (assigns (a ∷ []) l) m m₁ c (Err e)
  assigned-stop w = record { is = λ k. assigns-made a l (both-whole m c a l h) w }

pub side_fixed : (m : Lent) (c : State) (a : ℕ) (l : List ℕ) → is_variable (termed m.terms c) a && fixed (termed m.terms c) l ≡ true → fixed (store_of m c) l ≡ true
unfolding fixed
side_fixed m c a l h = both_right (is_variable (termed m.terms c) a) _ h
