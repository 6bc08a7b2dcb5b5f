-- The ways of a push: "" dropped, two constants joined, an atom appended.
use mathlib.Core.Path.{◌≡◌, refl, sym, ap, ◌∙◌}
use mathlib.Core.Bool.{Bool, true, false, ◌&&◌}
use mathlib.Core.List.{List, [], ◌∷◌, ◌++◌, append-nil, reverse, reverse-append}
use Prim.Native.Nat.{ℕ, zero, suc, ◌+◌, ◌-◌, ◌≤◌, ◌<◌}
use native.Mathlib.Numerals.{add-one}
use native.Mathlib.Omega.{arith}
use lib.ListN.{length, get_or, set}
use lib.Dec.{eqb}
use borrow.Author.Tests.{eqb-true}
use Rattle.records.specs.declared.State.{State}
use Rattle.records.specs.Lists.{all, concat_map, table}
use Rattle.records.specs.Store.{Store, Term as TermOf, Out, ok, stop, Work, and_then, give, within, kind, term, term_in, is_constant, text}
use Rattle.records.specs.View.{Lent, store_of, terms_view, term_at}
use Rattle.records.specs.Make.{make_constant}
use Rattle.records.specs.Working.Audited.{Ready}
use Rattle.records.specs.Working.Doing.{Working}
use Rattle.records.proofs.Lists.{both_left, both_right, both_true, left_false, clash, decide, table-length, table-suc}
use Rattle.records.proofs.Views.{second_at, text-span}
use Rattle.records.proofs.Grown.{kind-term}
use Rattle.records.proofs.Doing.{working_same, working_stopped, working_is, working_left}
use Rattle.normalize.specs.Normalize.{join, push}
use Rattle.normalize.specs.Working.Flat.{bare}
use Rattle.normalize.specs.Working.Nodes.{is_constant_in}
use Rattle.normalize.specs.Working.Pushes.{is_empty_in, joins_in}
use Rattle.normalize.specs.Calls.{first_words}
use Rattle.normalize.proofs.Refines.Words.{words-put}

-- THE LIST IN THE SLICE, LAST ATOM FIRST

module _ (l : List ℕ) where
  snoc : (w : List ℕ) (x : ℕ) → reverse (w ++ x ∷ []) ≡ x ∷ reverse w
  snoc w x = reverse-append w (x ∷ [])

  module _ (n : ℕ) where
    pub last-first : 0 < n → reverse (first_words l n) ≡ get_or l (n - 1) 0 ∷ reverse (first_words l (n - 1))
    last-first p =
        let e : n ≡ suc (n - 1) = omega arith in
        ap (λ (k : ℕ). reverse (first_words l k)) e ∙ ap reverse (table-suc (λ i. get_or l i 0) (n - 1)) ∙ snoc (first_words l (n - 1)) (get_or l (n - 1) 0)

    pub put_last : (u : ℕ) → 0 < n → n ≤ length l → reverse (first_words (set l (n - 1) u) n) ≡ u ∷ reverse (first_words l (n - 1))
    put_last u p h =
        let e : n ≡ suc (n - 1) = omega arith in
        ap (λ (k : ℕ). reverse (first_words (set l (n - 1) u) k)) e ∙ ap reverse (words-put l (n - 1) u (omega arith)) ∙ snoc (first_words l (n - 1)) u

    pub put_next : (t : ℕ) → n < length l → reverse (first_words (set l n t) (n + 1)) ≡ t ∷ reverse (first_words l n)
    put_next t h = ap (λ (k : ℕ). reverse (first_words (set l n t) k)) (add-one n) ∙ ap reverse (words-put l n t h) ∙ snoc (first_words l n) t

-- TESTS

pub empty-other : (ts : List TermOf) (t : ℕ) (b : Bool) → b ≡ is_constant_in ts t → b ≡ false → b ≡ is_empty_in ts t
unfolding is_empty_in
empty-other ts t b e d = d ∙ sym (left_false _ _ (sym e ∙ d))

pub empty_constant : (l : List ℕ) (n t : ℕ) (b : Bool) (x : ℕ) → b ≡ is_constant_in (terms_view l n) t → b ≡ true → x ≡ (term_at l t).second → eqb x 0 ≡ is_empty_in (terms_view l n) t
unfolding is_empty_in
empty_constant l n t b x e d f = rw (sym e ∙ d, ← second_at l n t x here f)
  where
    here : within n t ≡ true
    here = rw (table-length (λ i. term_at l (suc i)) n) at (kind-term (bare l n [] 0) t 0 (eqb-true (term_in (terms_view l n) t).kind 1 (sym e ∙ d)))

module _ (ts : List TermOf) (t : ℕ) where
  pub joins-none : (l : List ℕ) (n : ℕ) → n ≡ 0 → false ≡ joins_in ts t (reverse (first_words l n))
  unfolding joins_in table
  joins-none l n e = rw e

  pub joins-other : (out : List ℕ) (b : Bool) → b ≡ is_constant_in ts t → b ≡ false → false ≡ joins_in ts t out
  unfolding joins_in
  joins-other [] b e d = refl
  joins-other (u ∷ out) b e d = sym (left_false _ _ (sym e ∙ d))

  pub joins-last : (l : List ℕ) (n : ℕ) (a b : Bool) → (n ≡ 0 → ⊥) → a ≡ is_constant_in ts t → a ≡ true → b ≡ is_constant_in ts (get_or l (n - 1) 0) → b ≡ joins_in ts t (reverse (first_words l n))
  unfolding joins_in
  joins-last l n a b d e f g = g ∙ rw (last-first l n (omega arith), sym e ∙ f)

  pub joins-some : (l : List ℕ) (n : ℕ) → joins_in ts t (reverse (first_words l n)) ≡ true → 0 < n
  unfolding joins_in table
  joins-some l zero e = clash e refl
  joins-some l (suc n) e = omega arith

-- JOINING

module _ (s : Store) (t u : ℕ) (out : List ℕ) (h : joins_in s.terms t (u ∷ out) ≡ true) where
  pub joins-all : all (is_constant s) (u ∷ t ∷ []) ≡ true
  unfolding joins_in all
  joins-all = both_true _ _ (both_right (is_constant s t) _ h) (both_true _ true (both_left (is_constant s t) _ h) refl)

  pub join_is : join t (u ∷ out) s ≡ and_then (λ (x : ℕ). give (x ∷ out)) (make_constant (concat_map (text s) (u ∷ t ∷ [])) s)
  unfolding join joins_in concat_map
  join_is = rw (h, append-nil (text s t))

module _ {m : Lent} {c : State} (ready : Ready m c) (t n : ℕ) (l : List ℕ) (p : 0 < n) (q : n ≤ length l) (h : joins_in (store_of m c).terms t (reverse (first_words l n)) ≡ true) where
  abbrev w : Work ℕ
  w = λ s. make_constant (concat_map (text s) (get_or l (n - 1) 0 ∷ t ∷ [])) s

  split : joins_in (store_of m c).terms t (get_or l (n - 1) 0 ∷ reverse (first_words l (n - 1))) ≡ true
  split = rw (last-first l n p) at h

  pub pair-constants : all (is_constant (store_of m c)) (get_or l (n - 1) 0 ∷ t ∷ []) ≡ true
  pair-constants = joins-all (store_of m c) t (get_or l (n - 1) 0) _ split

  says : (o : Out ℕ) → w (store_of m c) ≡ o → join t (reverse (first_words l n)) (store_of m c) ≡ and_then (λ (x : ℕ). give (x ∷ reverse (first_words l (n - 1)))) o
  says o e = ap (λ (k : List ℕ). join t k (store_of m c)) (last-first l n p) ∙ join_is (store_of m c) t (get_or l (n - 1) 0) _ split ∙ ap (and_then (λ (x : ℕ). give (x ∷ reverse (first_words l (n - 1))))) e

  pub join-made : {m' : Lent} (x : ℕ) (d : State) → Working w m m' c (ok (store_of m' d) x) → Working (join t (reverse (first_words l n))) m m' c (ok (store_of m' d) (reverse (first_words (set l (n - 1) x) n)))
  join-made x d u = working_left (u.ready d x refl) (rw (put_last l n x p q) (says _ u.says)) u.kept

  pub join-stopped : {m' : Lent} {k : ℕ} → Working w m m' c (stop k) → Working (join t (reverse (first_words l n))) m m' c (stop k)
  join-stopped u = working_stopped (says _ u.says) u.kept

-- PUSHING

module _ {m : Lent} {c : State} (ready : Ready m c) (t : ℕ) (out : List ℕ) where
  abbrev s : Store
  s = store_of m c

  second_is : kind s t ≡ 1 → length (text s t) ≡ (term s t).second
  second_is e =
      ap length (text-span m.chars c.chars (term s t) (let k = ready.audited.recorded.constants t e in let z = table-length (λ i. get_or m.chars i 0) c.chars in omega arith))
      ∙ table-length (λ i. get_or m.chars ((term s t).first + i) 0) (term s t).second

  empty-is : is_empty_in s.terms t ≡ (is_constant s t && eqb (length (text s t)) 0)
  unfolding is_empty_in
  empty-is = decide (is_constant s t) (λ e. rw (second_is (eqb-true _ _ e))) (λ e. rw e)

  pub push-empty : (b : Bool) → b ≡ is_empty_in s.terms t → b ≡ true → Working (push t out) m m c (ok s out)
  unfolding push
  push-empty b e h = working_same ready (rw (sym empty-is ∙ sym e ∙ h))

  module _ (b : Bool) (e : b ≡ is_empty_in s.terms t) (h : b ≡ false) where
    push-join : push t out s ≡ join t out s
    unfolding push
    push-join = rw (sym empty-is ∙ sym e ∙ h)

    pub push-joined : {m' : Lent} {r : Out (List ℕ)} → Working (join t out) m m' c r → Working (push t out) m m' c r
    push-joined o = working_is push-join o

    plain : (l : List ℕ) → joins_in s.terms t l ≡ false → join t l s ≡ ok s (t ∷ l)
    unfolding join joins_in
    plain [] q = refl
    plain (u ∷ l) q = rw q

    pub push-plain : (l : List ℕ) (n : ℕ) → out ≡ reverse (first_words l n) → n < length l → (j : Bool) → j ≡ joins_in s.terms t out → j ≡ false → Working (push t out) m m c (ok s (reverse (first_words (set l n t) (n + 1))))
    push-plain l n i h j q d = working_same ready (rw (put_next l n t h, ← i) (push-join ∙ plain out (sym q ∙ d)))
