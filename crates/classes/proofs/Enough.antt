-- 511 records of joins are enough: undoing them all makes as many class roots more, and 512 terms have at most 512.
use Rattle.std.specs.Prelude.{if◌then◌else◌}
use mathlib.Core.Path.{◌≡◌, refl, sym, ap, subst, ◌∙◌}
use mathlib.Core.Bool.{Bool, true, false, not, ◌&&◌, false≢true}
use mathlib.Core.List.{List, [], ◌∷◌}
use mathlib.Core.Logic.{⊎_elim}
use mathlib.Core.Option.{Option, none, some}
use Prim.Native.Nat.{ℕ, zero, suc, ◌+◌, ◌-◌, ◌≤◌, ◌<◌}
use native.Mathlib.Nat.{eq-or-lt_of_le, le_of_suc-le-suc}
use native.Mathlib.Decide.{ℕ_discrete}
use native.Mathlib.Omega.{arith}
use lib.ListN.{length}
use lib.Dec.{eqb}
use borrow.Author.Tests.{eqb-true, eq-eqb, ne_eqb}
use Rattle.records.specs.Lists.{all}
use Rattle.records.specs.Store.{Term, Store, count, is_term, class_up, root}
use Rattle.records.specs.Working.Audited.{Audited}
use Rattle.records.proofs.Lists.{decide, both_left, both_right, both_true, right-true, right-false, within_low, within-high}
use Rattle.records.proofs.Climbs.{root-term}
use Rattle.classes.specs.Joins.{Trace, cut_in, undo_in}
use Rattle.classes.specs.Marks.{Trail, join_limit, undo_all, table_at, counts_rule, rises, passes, marks_rule}
use Rattle.classes.specs.Working.Carries.{Forest}
use Rattle.classes.proofs.Undoing.{classed-forest}
use Rattle.classes.proofs.Cutting.{Cuts, undo_cuts, cut-kept, cut-like, cut-class, cut-classes}
use Rattle.classes.proofs.Undone.{undo-each, undone-stays}

-- HOW MANY PASS

-- how many numbers below n pass
unfoldable how_many : (ℕ → Bool) → ℕ → ℕ
how_many p zero = 0
how_many p (suc n) = if p n then suc (how_many p n) else how_many p n

module _ (p : ℕ → Bool) (n : ℕ) where
  many_hit : p n ≡ true → how_many p (suc n) ≡ suc (how_many p n)
  unfolding how_many
  many_hit e = rw e

  many-pass : p n ≡ false → how_many p (suc n) ≡ how_many p n
  unfolding how_many
  many-pass e = rw e

many_most : (p : ℕ → Bool) (n : ℕ) → how_many p n ≤ n
unfolding how_many
many_most p zero = omega arith
many_most p (suc n) = let h = many_most p n in decide (p n) (λ e. let q = many_hit p n e in omega arith) (λ e. let q = many-pass p n e in omega arith)

-- where one number more passes, it is one more
module _ (p q : ℕ → Bool) (i : ℕ) (was : p i ≡ false) (is : q i ≡ true) (others : (k : ℕ) → (k ≡ i → ⊥) → q k ≡ p k) where
  many_below : (n : ℕ) → n ≤ i → how_many q n ≡ how_many p n
  unfolding how_many
  many_below zero l = refl
  many_below (suc n) l = let e = many_below n (omega arith) in let d = others n (λ z. omega arith) in
      decide (p n) (λ h. many_hit q n (d ∙ h) ∙ ap suc e ∙ sym (many_hit p n h)) (λ h. many-pass q n (d ∙ h) ∙ e ∙ sym (many-pass p n h))

  many_more : (n : ℕ) → i < n → how_many q n ≡ suc (how_many p n)
  many_more zero l = absurd (omega arith)
  many_more (suc n) l = go (many_more n) (ℕ_discrete n i)
    where
      go : (i < n → how_many q n ≡ suc (how_many p n)) → Dec (n ≡ i) → how_many q (suc n) ≡ suc (how_many p (suc n))
      go ih (yes z) = many_hit q n (ap q z ∙ is) ∙ ap suc (many_below n (omega arith) ∙ sym (many-pass p n (ap p z ∙ was)))
      go ih (no z) = let e = ih (⊎_elim (λ y. absurd (z (sym y))) (λ y. y) (eq-or-lt_of_le (le_of_suc-le-suc l))) in let d = others n z in
          decide (p n) (λ h. many_hit q n (d ∙ h) ∙ ap suc (e ∙ sym (many_hit p n h))) (λ h. many-pass q n (d ∙ h) ∙ e ∙ ap suc (sym (many-pass p n h)))

-- two numbers that pass are two: each left out in turn, it is one less
abbrev but : (ℕ → Bool) → ℕ → ℕ → Bool
but p i k = p k && not (eqb k i)

many-but : (p : ℕ → Bool) (n i : ℕ) → i < n → p i ≡ true → how_many p n ≡ suc (how_many (but p i) n)
many-but p n i l h = many_more (but p i) p i (right-false (p i) _ (ap not (eq-eqb i i refl))) h (λ k d. sym (right-true (p k) _ (ap not (ne_eqb k i d)))) n l

many-two : (p : ℕ → Bool) (n i j : ℕ) → i < n → j < n → (j ≡ i → ⊥) → p i ≡ true → p j ≡ true → 2 ≤ how_many p n
many-two p n i j l k d g h = let q = many-but p n i l g in let r = many-but (but p i) n j k (both_true (p j) _ h (ap not (ne_eqb j i d))) in omega arith

-- CLASS ROOTS

abbrev is_own : List Term → ℕ → Bool
is_own ts i = eqb (class_up ts (suc i)) (suc i)

abbrev roots : List Term → ℕ
roots ts = how_many (is_own ts) (length ts)

-- a join undone makes one more
undo-roots : (ts us : List Term) (x : Trace) → Forest ts → Cuts ts us x → roots us ≡ suc (roots ts)
undo-roots ts us x f u =
    let t = u.traced in
    let l = within_low (length ts) x.under t.under in
    let h = within-high (length ts) x.under t.under in
    let e : suc (x.under - 1) ≡ x.under = omega arith in
    subst (λ (vs : List Term). roots vs ≡ suc (roots ts)) u.is
    (ap (how_many (is_own (cut_in ts x))) (cut-like ts x f t.child t.old_root t.under).long
    ∙ many_more (is_own ts) (is_own (cut_in ts x)) (x.under - 1)
    (ne_eqb _ _ (λ z. t.put (subst (λ (y : ℕ). class_up ts y ≡ y) e z)))
    (eq-eqb _ _ (subst (λ (y : ℕ). class_up (cut_in ts x) y ≡ y) (sym e) (cut-class ts x f t.child t.old_root t.under)))
    (λ k d. ap (λ (y : ℕ). eqb y (suc k)) (cut-classes ts x f t.child t.old_root t.under (suc k) (λ z. d (omega arith))))
    (length ts) (omega arith))

-- joins undone make as many more
undo_all_lem : (l : List Trace) (ts us : List Term) → Forest ts → undo_all l ts ≡ some us → roots us ≡ roots ts + length l
undo_all_lem l ts us f e = (undo-each (λ l us. Forest us × (roots us ≡ roots ts + length l)) (f, omega arith) one l us e).1
  where
    one : (x : Trace) (l : List Trace) (us vs : List Term) → Forest us × (roots us ≡ roots ts + length l) → undo_in us x ≡ some vs → Forest vs × (roots vs ≡ roots ts + length (x ∷ l))
    one x l us vs k h =
        let u = undo_cuts us vs x h in
        let t = u.traced in
        let r = undo-roots us vs x k.0 u in
        let m = k.1 in
        (subst Forest u.is (cut-kept us x k.0 t.child t.old_root t.under), omega arith)

-- MARKS

-- joins are recorded from the first mark on, so that going back to it undoes them all
first_mark : (s : Store) (x : Trail) (ms : List ℕ) → Forest s.terms → counts_rule ms (length x.joins) ≡ true → all (λ n. passes s (table_at n x s.terms)) ms ≡ true → roots s.terms + length x.joins ≤ count s
unfolding counts_rule all
first_mark s x [] f c h = let e = eqb-true (length x.joins) 0 c in let m = many_most (is_own s.terms) (count s) in omega arith
first_mark s x (n ∷ ms) f c h = go (table_at 0 x s.terms) refl
    (subst (λ (k : ℕ). passes s (table_at k x s.terms) ≡ true) (eqb-true n 0 (both_left (eqb n 0) (rises n ms (length x.joins)) c)) (both_left (passes s (table_at n x s.terms)) _ h))
  where
    go : (o : Option (List Term)) → table_at 0 x s.terms ≡ o → passes s o ≡ true → roots s.terms + length x.joins ≤ count s
    go none e q = absurd (false≢true q)
    go (some us) e q =
        let r = undo_all_lem x.joins s.terms us f e in
        let l = (undone-stays x.joins s.terms us f e).like.long in
        let m = many_most (is_own us) (length us) in omega arith

-- two terms apart have two class roots
two-roots : (s : Store) → Audited s → (a b : ℕ) → is_term s a ≡ true → is_term s b ≡ true → (root s a ≡ root s b → ⊥) → 2 ≤ roots s.terms
two-roots s au a b wa wb d =
    let wx = root-term s au.classed a wa in
    let wy = root-term s au.classed b wb in
    let lx = within_low (count s) (root s a) wx in
    let ly = within_low (count s) (root s b) wy in
    let hx = within-high (count s) (root s a) wx in
    let hy = within-high (count s) (root s b) wy in
    many-two (is_own s.terms) (count s) (root s a - 1) (root s b - 1) (omega arith) (omega arith) (λ e. d (omega arith))
    (own_root (root s a) lx (au.classed.class_ends a wa)) (own_root (root s b) ly (au.classed.class_ends b wb))
  where
    own_root : (t : ℕ) → 0 < t → class_up s.terms t ≡ t → is_own s.terms (t - 1) ≡ true
    own_root t l e = let q : suc (t - 1) ≡ t = omega arith in eq-eqb _ _ (subst (λ (z : ℕ). class_up s.terms z ≡ z) (sym q) e)

-- a join of two classes finds room for its record
pub joins_fit_lem : (s : Store) (x : Trail) → Audited s → marks_rule s x ≡ true → count s ≤ 512 → (a b : ℕ) → is_term s a ≡ true → is_term s b ≡ true → (root s a ≡ root s b → ⊥) → length x.joins < join_limit
unfolding marks_rule
joins_fit_lem s x au h few a b wa wb d =
    let m = first_mark s x x.marks (classed-forest s au.classed) (both_left _ _ h) (both_right (counts_rule x.marks (length x.joins)) _ h) in
    let t = two-roots s au a b wa wb d in omega arith
