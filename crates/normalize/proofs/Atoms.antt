-- The atoms of a term: their equation without fuel, what they are, and that they have the term's word.
use Rattle.std.specs.Prelude.{if◌then◌else◌}
use mathlib.Core.Path.{◌≡◌, refl, sym, ap, subst, ◌∙◌}
use mathlib.Core.Bool.{Bool, true, false}
use mathlib.Core.List.{List, [], ◌∷◌, ◌++◌, append-nil}
use Prim.Native.Nat.{ℕ, zero, suc, ◌≤◌, ◌<◌}
use native.Mathlib.Omega.{arith}
use lib.ListN.{length}
use lib.Dec.{eqb, leb}
use borrow.Author.Tests.{eqb-true, leb-true, leb-false, le-leb, lt-leb}
use Rattle.records.specs.Lists.{all, concat_map, firsts, Every, none_left, and}
use Rattle.records.specs.Store.{Term, Cell, Store, ok, stop, give, refuse, is_string, is_concat, term, term_in, chain_in, parts}
use Rattle.records.specs.Meaning.{Words, Reading}
use Rattle.records.specs.Working.Audited.{Recorded, Audited}
use Rattle.records.proofs.Lists.{decide, clash, concat_map-append, concat_map-same, every_map, every_append, all_every, every_both}
use Rattle.records.proofs.Works.{stop-not, branch}
use Rattle.records.proofs.Grown.{term-zero}
use Rattle.records.proofs.Readings.{parts-lower, parts-strings}
use Rattle.normalize.specs.Normalize.{atoms_by, atoms, flatten}
use Rattle.records.specs.Rules.{list_limit}
use Rattle.normalize.specs.Working.Flat.{Nested}

-- LISTS

-- joined words of joined lists
pub concat_map-twice : {A B C : Type 0} (w : B → List C) (f : A → List B) (l : List A) → concat_map w (concat_map f l) ≡ concat_map (λ a. concat_map w (f a)) l
unfolding concat_map
concat_map-twice w f [] = refl
concat_map-twice w f (a ∷ l) = concat_map-append w (f a) (concat_map f l) ∙ ap (λ (x : List _). concat_map w (f a) ++ x) (concat_map-twice w f l)

-- each element of each list
pub every_concat_map : {A B : Type 0} {P : B → Type 0} (f : A → List B) {l : List A} → Every (λ a. Every P (f a)) l → Every P (concat_map f l)
unfolding concat_map
every_concat_map f none_left = none_left
every_concat_map f (and p k) = every_append p (every_concat_map f k)

-- what all have each element has
pub every_of : {A : Type 0} {P : A → Type 0} (l : List A) → ((a : A) → P a) → Every P l
every_of [] f = none_left
every_of (a ∷ l) f = and (f a) (every_of l f)

-- ATOMS

-- no term is no concatenation
zero-plain : (s : Store) → is_concat s 0 ≡ false
zero-plain s = ap (λ (x : Term). eqb x.kind 3) (term-zero s)

module _ (s : Store) where
  atoms_by-plain : (n t : ℕ) → is_concat s t ≡ false → atoms_by n s t ≡ t ∷ []
  unfolding atoms_by
  atoms_by-plain zero t e = refl
  atoms_by-plain (suc n) t e = rw (atoms_by, e)

  atoms_by-concat : (n t : ℕ) → is_concat s t ≡ true → atoms_by (suc n) s t ≡ concat_map (atoms_by n s) (parts s t)
  unfolding atoms_by
  atoms_by-concat n t e = rw (atoms_by, e)

  -- a term that is no concatenation is its own atom
  pub atoms-plain : (t : ℕ) → is_concat s t ≡ false → atoms s t ≡ t ∷ []
  atoms-plain t e = atoms_by-plain t t e

  -- the atoms have the word of the whole
  words-by : (w : Words) → Reading s w → (n t : ℕ) → w t ≡ concat_map w (atoms_by n s t)
  unfolding atoms_by concat_map
  words-by w r zero t = sym (append-nil (w t))
  words-by w r (suc n) t =
      decide (is_concat s t)
      (λ e. r.concats t (eqb-true _ _ e) ∙ concat_map-same w (λ p. concat_map w (atoms_by n s p)) (every_of (parts s t) (words-by w r n))
      ∙ sym (concat_map-twice w (atoms_by n s) (parts s t)) ∙ ap (concat_map w) (sym (atoms_by-concat n t e)))
      (λ e. sym (append-nil (w t)) ∙ ap (concat_map w) (sym (atoms_by-plain (suc n) t e)))

  pub atoms-word : (w : Words) → Reading s w → (t : ℕ) → w t ≡ concat_map w (atoms s t)
  atoms-word w r t = words-by w r t t

  pub atoms-words : (w : Words) → Reading s w → (l : List ℕ) → concat_map w l ≡ concat_map w (concat_map (atoms s) l)
  atoms-words w r l = concat_map-same w (λ t. concat_map w (atoms s t)) (every_of l (atoms-word w r)) ∙ sym (concat_map-twice w (λ t. atoms s t) l)

  none-plain : (n m t : ℕ) → t ≡ 0 → atoms_by n s t ≡ atoms_by m s t
  none-plain n m t z = let e : is_concat s t ≡ false = ap (λ (x : ℕ). is_concat s x) z ∙ zero-plain s in atoms_by-plain n t e ∙ sym (atoms_by-plain m t e)

-- a string term that is no concatenation
pub record Atom (s : Store) (a : ℕ) : Type 0 where
  pub string : is_string s a ≡ true
  pub plain : is_concat s a ≡ false

-- WITHOUT FUEL

module _ (s : Store) (nested : Nested s) where
  -- fuel no lower than the term's number is enough
  enough : (n m t : ℕ) → t ≤ n → t ≤ m → atoms_by n s t ≡ atoms_by m s t
  enough zero m t h k = none-plain s zero m t (omega arith)
  enough (suc n) zero t h k = none-plain s (suc n) zero t (omega arith)
  enough (suc n) (suc m) t h k =
      decide (is_concat s t)
      (λ e. atoms_by-concat s n t e
      ∙ concat_map-same (atoms_by n s) (atoms_by m s) (every_map (λ p i. enough n m p (omega arith) (omega arith)) (nested.lower t e))
      ∙ sym (atoms_by-concat s m t e))
      (λ e. atoms_by-plain s (suc n) t e ∙ sym (atoms_by-plain s (suc m) t e))

  concat-atoms : (n t : ℕ) → t ≡ suc n → is_concat s t ≡ true → atoms_by t s t ≡ concat_map (atoms s) (parts s t)
  concat-atoms n t i e =
      ap (λ (f : ℕ). atoms_by f s t) i ∙ atoms_by-concat s n t e
      ∙ concat_map-same (atoms_by n s) (λ p. atoms s p) (every_map (λ p h. enough n p p (omega arith) (omega arith)) (nested.lower t e))

  -- a concatenation's atoms are those of its parts in order
  pub nested_atoms : (t : ℕ) → is_concat s t ≡ true → atoms s t ≡ concat_map (atoms s) (parts s t)
  nested_atoms zero e = clash e (zero-plain s)
  nested_atoms (suc n) e = concat-atoms n (suc n) refl e

pub recorded_nested : (s : Store) → Recorded s → Nested s
recorded_nested s r = record { ascends = r.nexts; lower = λ t e. parts-lower s r t (eqb-true _ _ e) }

-- stores of the same terms and cells have the same atoms
module _ (s s' : Store) (p : s'.terms ≡ s.terms) (q : s'.cells ≡ s.cells) where
  concat-is : (t : ℕ) → is_concat s' t ≡ is_concat s t
  concat-is t = ap (λ (ts : List Term). eqb (term_in ts t).kind 3) p

  parts_are : (t : ℕ) → parts s' t ≡ parts s t
  parts_are t = ap (λ (ts : List Term). firsts (chain_in s'.cells (term_in ts t).first)) p ∙ ap (λ (cs : List Cell). firsts (chain_in cs (term s t).first)) q

  same_by : (n t : ℕ) → atoms_by n s' t ≡ atoms_by n s t
  unfolding atoms_by
  same_by zero t = refl
  same_by (suc n) t =
      decide (is_concat s t)
      (λ e. atoms_by-concat s' n t (concat-is t ∙ e) ∙ concat_map-same (atoms_by n s') (atoms_by n s) (every_of (parts s' t) (same_by n)) ∙ ap (concat_map (atoms_by n s)) (parts_are t) ∙ sym (atoms_by-concat s n t e))
      (λ e. atoms_by-plain s' (suc n) t (concat-is t ∙ e) ∙ sym (atoms_by-plain s (suc n) t e))

  pub same-atoms : (t : ℕ) → atoms s' t ≡ atoms s t
  same-atoms t = same_by t t

module _ (s : Store) (audited : Audited s) where
  -- a concatenation's atoms are those of its parts in order
  pub atoms-is : (t : ℕ) → is_concat s t ≡ true → atoms s t ≡ concat_map (atoms s) (parts s t)
  atoms-is t e = nested_atoms s (recorded_nested s audited.recorded) t e

  atoms-below : (n t : ℕ) → t < n → is_string s t ≡ true → Every (Atom s) (atoms s t)
  atoms-below zero t h e = absurd (omega arith)
  atoms-below (suc n) t h e =
      decide (is_concat s t)
      (λ q. let k = eqb-true _ _ q in
      subst (Every (Atom s)) (sym (atoms-is t q)) (every_concat_map (λ p. atoms s p)
      (every_map (λ p i. let j = i.0 in atoms-below n p (omega arith) i.1) (every_both (parts-lower s audited.recorded t k) (parts-strings s audited.recorded t k)))))
      (λ q. subst (Every (Atom s)) (sym (atoms-plain s t q)) (and (record { string = e; plain = q }) none_left))

  pub atoms-strings : (t : ℕ) → is_string s t ≡ true → Every (Atom s) (atoms s t)
  atoms-strings t e = atoms-below (suc t) t (omega arith) e

  pub all-strings : (l : List ℕ) → all (is_string s) l ≡ true → Every (Atom s) (concat_map (atoms s) l)
  all-strings l e = every_concat_map (λ t. atoms s t) (every_map (λ t i. atoms-strings t i) (all_every _ l e))

-- FLATTEN

-- a list flattened: the store as it is, at most 1,024 atoms, and the list's word
pub record Flat (s s' : Store) (l m : List ℕ) : Type 0 where
  pub same_store : s' ≡ s
  pub is : m ≡ concat_map (atoms s) l
  pub long : length m ≤ list_limit
  pub words : (w : Words) → Reading s w → concat_map w l ≡ concat_map w m

module _ (l : List ℕ) (s : Store) where
  pub flatten-fits : length (concat_map (atoms s) l) ≤ list_limit → flatten l s ≡ ok s (concat_map (atoms s) l)
  unfolding flatten
  flatten-fits h = rw (flatten, le-leb _ _ h)

  pub flatten-full : list_limit < length (concat_map (atoms s) l) → flatten l s ≡ stop 6
  unfolding flatten
  flatten-full h = rw (flatten, lt-leb _ _ h)

  -- it stops only with 6, where the list passes 1,024
  pub flatten-stops : (n : ℕ) → flatten l s ≡ stop n → (n ≡ 6) × (list_limit < length (concat_map (atoms s) l))
  unfolding flatten
  flatten-stops n e = go (leb (length (concat_map (atoms s) l)) list_limit) refl e
    where
      go : (b : Bool) → leb (length (concat_map (atoms s) l)) list_limit ≡ b → (if b then give (concat_map (atoms s) l) else refuse 6) s ≡ stop n → (n ≡ 6) × (list_limit < length (concat_map (atoms s) l))
      go true q d = let z : ◌≡◌ {A = ℕ} 0 1 = cc in absurd (omega arith)
      go false q d = (cc, leb-false _ _ q)

  pub flatten-flat : (s' : Store) (m : List ℕ) → flatten l s ≡ ok s' m → Flat s s' l m
  unfolding flatten
  flatten-flat s' m e =
      branch (leb (length (concat_map (atoms s) l)) list_limit) _ _ {s = s}
      (λ b d. let p : s' ≡ s = cc in let q : m ≡ concat_map (atoms s) l = cc in record {
        same_store = p;
        is = q;
        long = subst (λ (x : List ℕ). length x ≤ list_limit) (sym q) (leb-true _ _ b);
        words = λ w r. atoms-words s w r l ∙ ap (concat_map w) (sym q);
      })
      (λ b d. stop-not d) e

-- and each of its atoms is a string term that is no concatenation
pub flatten-atoms : (l : List ℕ) (s s' : Store) (m : List ℕ) → Audited s → all (is_string s) l ≡ true → flatten l s ≡ ok s' m → Every (Atom s) m
flatten-atoms l s s' m audited e q = subst (Every (Atom s)) (sym (flatten-flat l s s' m q).is) (all-strings s audited l e)
