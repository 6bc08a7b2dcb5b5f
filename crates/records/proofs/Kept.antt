-- Making a term, adding a reason or a key and taking a name keep a store audited: what each gives, and with which number it stops.
use Rattle.std.specs.Prelude.{if◌then◌else◌}
use mathlib.Core.Path.{◌≡◌, refl, sym, ap, subst, ◌∙◌}
use mathlib.Core.Bool.{Bool, true, false, ◌&&◌, false≢true}
use mathlib.Core.List.{List, [], ◌∷◌, ◌++◌}
use mathlib.Core.Logic.{◌⊎◌, inl, inr, ⊎_elim}
use mathlib.Core.Option.{Option, none, some}
use Prim.Native.Nat.{ℕ, zero, suc, ◌+◌, ◌-◌, ◌/◌, ◌%◌, ◌≤◌, ◌<◌, min, max}
use native.Mathlib.Nat.{min-eq_left, min-eq_right, max-eq_left, max-eq_right, eq-or-lt_of_le, mod-lt}
use native.Mathlib.Omega.{arith}
use lib.ListN.{length, take, drop, length-append, length-drop}
use lib.Seq.{take-append-le, drop-append-le, drop-append_seam, take-length}
use lib.Dec.{eqb, ltb, leb}
use borrow.Author.Tests.{eqb-true, eq-eqb, ltb-true, leb-true, leb-false, lt-ltb}
use Rattle.records.specs.Lists.{all, firsts, first_below, Every, none_left, and}
use Rattle.records.specs.Store.{Term, Cell, Store, Out, ok, stop, Work, and_then, ◌>>=◌, ◌>>◌, give, refuse, put, term, count, kind, within, is_term, is_string, is_constant, is_variable, is_concat, is_length, is_equation, text_in, text, chain_in, parts}
use Rattle.records.specs.Rules.{is_char, key_rule, named, is_equatable}
use Rattle.records.specs.Make.{with_keys, with_chars, with_cells, with_names, own, add_key, add_text, add_chain, chain_from, add_term, lookup, or_make, lowest, constant_of, concat_of, length_of, equation_of, make_constant, make_variable, make_concat, make_length, make_equation, ordered, strk, decimal_by, name_of, is_some, is_taken, take_name_by, name_limit, take_name}
use Rattle.records.specs.Meaning.{Words, Reading}
use Rattle.records.specs.Working.Audited.{Recorded, Audited}
use Rattle.records.proofs.Lists.{both_left, both_right, both_true, decide, clash, all_append, all_every, within_low, within-high, word_is, word_same, first_some, first-none}
use Rattle.records.proofs.Works.{stop-not, via, branch}
use Rattle.records.proofs.Chains.{extends-refl, extends-append, ascends-made, chain-made, from-length, plain, plain-firsts, plain-length}
use Rattle.records.proofs.Grown.{kind-term, Grown, OldVariables, grown-none, grown-then}
use Rattle.records.proofs.Append.{grow, More, New, kept-audited, new_term, each-kind}
use Rattle.records.proofs.Extend.{Chosen, choose, kept_grown}
use Rattle.records.proofs.Beside.{audited-beside, grown-beside, reading-beside, holds-beside}

-- TERMS

-- how a store came from another by making a term: it was found, or one term is appended; or the name counter was moved before
pub data Appends : Store → Store → Type 0 where
  found : {s : Store} → Appends s s
  one_term_more : {s : Store} {ds : List Cell} {hs : List ℕ} {k a b : ℕ} → More s ds hs → New s ds hs k a b → Appends s (grow s ds hs k a b)
  after_names : {s s' : Store} (m : ℕ) → Appends (with_names s m) s' → Appends s s'

-- a term made: what it is, that the store is audited, that no other is a new variable, and what of the store is as it was
pub record MadeIn (s s' : Store) (t k : ℕ) : Type 0 where
  pub audited : Audited s'
  pub grown : Grown s s'
  pub appends : Appends s s'
  pub kind_is : kind s' t ≡ k
  pub variables : (k ≡ 2 → ⊥) → OldVariables s s'
  pub cells : length s.cells ≤ length s'.cells
  pub chars : length s.chars ≤ length s'.chars
  pub reasons : s'.reasons ≡ s.reasons
  pub keys : s'.keys ≡ s.keys
  pub room : s'.room ≡ s.room

-- a term of kinds 1 to 3 is a string term
pub made-string : {s s' : Store} {t k : ℕ} → MadeIn s s' t k → within 3 k ≡ true → is_string s' t ≡ true
made-string m e = ap (within 3) m.kind_is ∙ e

-- a term found is in the store as it is
found_in : (s s' : Store) (t k : ℕ) → Audited s → s' ≡ s → kind s t ≡ k → MadeIn s s' t k
found_in s s' t k a e q =
    subst (λ (x : Store). MadeIn s x t k) (sym e) (record { audited = a; grown = grown-none s; appends = found; kind_is = q; variables = λ d u e. e; cells = omega arith; chars = omega arith; reasons = refl; keys = refl; room = refl })

-- a term appended
grow_in : (s : Store) (ds : List Cell) (hs : List ℕ) (k a b : ℕ) → Audited s → More s ds hs → New s ds hs k a b → MadeIn s (grow s ds hs k a b) (suc (count s)) k
grow_in s ds hs k a b audited more new = record {
  audited = kept-audited s ds hs k a b audited more new;
  grown = kept_grown s ds hs k a b audited more new;
  appends = one_term_more more new;
  kind_is = ap (λ (x : Term). x.kind) (new_term s ds hs k a b);
  variables = λ d. each-kind s ds hs k a b 1 (λ t e. e) (λ e. absurd (d e));
  cells = more.cells.longer;
  chars = more.chars;
  reasons = refl;
  keys = refl;
  room = refl;
}

-- no term of the store is equal
abbrev pub Absent : (Store → ℕ → Bool) → Store → Type 0
Absent equal s = (t : ℕ) → is_term s t ≡ true → equal s t ≡ false

none-absent : (equal : Store → ℕ → Bool) (s : Store) → lookup equal s ≡ none → Absent equal s
unfolding lookup
none-absent equal s q zero h = let l = within_low (count s) 0 h in absurd (omega arith)
none-absent equal s q (suc t) h = first-none (λ i. equal s (suc i)) (count s) q t (within-high (count s) (suc t) h)

-- making finds an equal term, or makes one where there is none
found-or-made : {X : Type 0} (equal : Store → ℕ → Bool) (make : Work ℕ) (s s' : Store) (t : ℕ) → (s' ≡ s → equal s t ≡ true → X) → (Absent equal s → make s ≡ ok s' t → X) → lowest equal make s ≡ ok s' t → X
unfolding lowest lookup
found-or-made {X} equal make s s' t f g e = go (first_below (λ i. equal s (suc i)) (count s)) refl e
  where
    go : (o : Option ℕ) → first_below (λ i. equal s (suc i)) (count s) ≡ o → or_make make o s ≡ ok s' t → X
    go none q d = g (none-absent equal s q) d
    go (some i) q d =
        let h = (first_some (λ i. equal s (suc i)) (count s) i q).passes in
        let u : suc i ≡ t = cc in
        let v : s ≡ s' = cc in
        f (sym v) (subst (λ (x : ℕ). equal s x ≡ true) u h)

lowest-stops : (equal : Store → ℕ → Bool) (make : Work ℕ) (s : Store) (n : ℕ) → (make s ≡ stop n → n ≡ 8) → lowest equal make s ≡ stop n → n ≡ 8
unfolding lowest
lowest-stops equal make s n f e = go (lookup equal s) e
  where
    go : (o : Option ℕ) → or_make make o s ≡ stop n → n ≡ 8
    go none d = f d
    go (some i) d = let z : ◌≡◌ {A = ℕ} 0 1 = cc in absurd (omega arith)

-- a write where there is room, and the number given
record Put (b : Bool) (s₁ : Store) (x : ℕ) (s' : Store) (t : ℕ) : Type 0 where
  room : b ≡ true
  store_is : s₁ ≡ s'
  value_is : x ≡ t

put-given : (b : Bool) (s₁ s : Store) (x : ℕ) (s' : Store) (t : ℕ) → ((if b then put s₁ else refuse 8) >> give x) s ≡ ok s' t → Put b s₁ x s' t
put-given true s₁ s x s' t e = record { room = refl; store_is = cc; value_is = cc }
put-given false s₁ s x s' t e = stop-not e

put-stops : (b : Bool) (s₁ s : Store) (x n : ℕ) → ((if b then put s₁ else refuse 8) >> give x) s ≡ stop n → n ≡ 8
put-stops true s₁ s x n e = let z : ◌≡◌ {A = ℕ} 0 1 = cc in absurd (omega arith)
put-stops false s₁ s x n e = cc

record TermAdded (k a b : ℕ) (s s' : Store) (t : ℕ) : Type 0 where
  room : count s < s.room.terms
  is : s' ≡ grow s s.cells s.chars k a b
  number : t ≡ suc (count s)

term-added : (k a b : ℕ) (s s' : Store) (t : ℕ) → add_term k a b s ≡ ok s' t → TermAdded k a b s s' t
unfolding add_term
term-added k a b s s' t e =
    let p = put-given (ltb (count s) s.room.terms) (grow s s.cells s.chars k a b) s (suc (count s)) s' t e in
    record { room = ltb-true _ _ p.room; is = sym p.store_is; number = sym p.value_is }

term-stops : (k a b : ℕ) (s : Store) (n : ℕ) → add_term k a b s ≡ stop n → n ≡ 8
unfolding add_term
term-stops k a b s n e = put-stops (ltb (count s) s.room.terms) (grow s s.cells s.chars k a b) s (suc (count s)) n e

-- what holds of the store that was built and of the new number holds of those answered
at-made : (P : Store → ℕ → Type 0) {s₁ s' : Store} {n t : ℕ} → s' ≡ s₁ → t ≡ n → P s₁ n → P s' t
at-made P {s₁} {t = t} p q h = subst (λ (y : Store). P y t) (sym p) (subst (P s₁) (sym q) h)

-- TEXTS

record TextAdded (k : ℕ) (w : List ℕ) (s s' : Store) (t : ℕ) : Type 0 where
  room : count s < s.room.terms
  fits : length s.chars + length w ≤ s.room.chars
  is : s' ≡ grow s s.cells (s.chars ++ w) k (length s.chars) (length w)
  number : t ≡ suc (count s)

-- the term of a text
abbrev texted : ℕ → List ℕ → Work ℕ
texted k w = add_text w >>= (λ p. add_term k p (length w))

text-added : (k : ℕ) (w : List ℕ) (s s' : Store) (t : ℕ) → texted k w s ≡ ok s' t → TextAdded k w s s' t
unfolding add_text
text-added k w s s' t e =
    via (λ p. add_term k p (length w)) (add_text w s) e (λ s₁ p q r.
    let i = put-given (leb (length s.chars + length w) s.room.chars) (with_chars s (s.chars ++ w)) s (length s.chars) s₁ p q in
    go s₁ p i.store_is i.value_is (leb-true _ _ i.room) r)
  where
    go : (s₁ : Store) (p : ℕ) → with_chars s (s.chars ++ w) ≡ s₁ → length s.chars ≡ p → length s.chars + length w ≤ s.room.chars → add_term k p (length w) s₁ ≡ ok s' t → TextAdded k w s s' t
    go s₁ p i j h r =
        let d : add_term k (length s.chars) (length w) (with_chars s (s.chars ++ w)) ≡ ok s' t = cc in
        let u = term-added k (length s.chars) (length w) (with_chars s (s.chars ++ w)) s' t d in
        record { room = u.room; fits = h; is = u.is; number = u.number }

text-stops : (k : ℕ) (w : List ℕ) (s : Store) (n : ℕ) → texted k w s ≡ stop n → n ≡ 8
unfolding add_text
text-stops k w s n e = go (add_text w s) refl e
  where
    go : (o : Out ℕ) → add_text w s ≡ o → and_then (λ p. add_term k p (length w)) o ≡ stop n → n ≡ 8
    go (ok s₁ p) q r = term-stops k p (length w) s₁ n r
    go (stop m) q r =
        let h = put-stops (leb (length s.chars + length w) s.room.chars) (with_chars s (s.chars ++ w)) s (length s.chars) m q in
        let j : m ≡ n = cc in sym j ∙ h

text-more : (s : Store) (w : List ℕ) → Recorded s → all is_char w ≡ true → More s s.cells (s.chars ++ w)
unfolding text_in
text-more s w r good = record {
  cells = extends-refl s.cells;
  ascends = r.nexts;
  chars = simp length-append (omega arith);
  texts = λ x h. ap (take x.second) (drop-append-le x.first s.chars w (omega arith))
      ∙ take-append-le x.second (drop x.first s.chars) w (simp length-drop (omega arith));
  characters = all_append is_char s.chars w ∙ both_true _ _ r.characters good;
}

pub text-read : (s : Store) (k : ℕ) (w : List ℕ) → text_in (s.chars ++ w) (own (suc (count s)) k (length s.chars) (length w)) ≡ w
unfolding text_in
text-read s k w = ap (take (length w)) (drop-append_seam s.chars w) ∙ take-length w

-- CONSTANTS

pub record ConstantMade (w : List ℕ) (s s' : Store) (t : ℕ) : Type 0 where
  pub made : MadeIn s s' t 1
  pub text_is : text s' t ≡ w

constant-new : (w : List ℕ) (s : Store) → Audited s → count s < s.room.terms → length s.chars + length w ≤ s.room.chars → New s s.cells (s.chars ++ w) 1 (length s.chars) (length w)
unfolding within
constant-new w s a h f = record {
  kinds = refl;
  constant = λ e. simp length-append (omega arith);
  variable = λ e. absurd (omega arith);
  concat = λ e. absurd (omega arith);
  length_of_term = λ e. absurd (omega arith);
  equation = λ e. absurd (omega arith);
  room = record { terms = h; cells = a.roomy.cells; chars = simp length-append (omega arith) };
}

constant-added : (w : List ℕ) (s s' : Store) (t : ℕ) → Audited s → all is_char w ≡ true → TextAdded 1 w s s' t → ConstantMade w s s' t
constant-added w s s' t a good x =
    at-made (ConstantMade w s) x.is x.number (record {
      made = grow_in s s.cells (s.chars ++ w) 1 (length s.chars) (length w) a (text-more s w a.recorded good) (constant-new w s a x.room x.fits);
      text_is = ap (text_in (s.chars ++ w)) (new_term s s.cells (s.chars ++ w) 1 (length s.chars) (length w)) ∙ text-read s 1 w;
    })

pub constant-kept : (w : List ℕ) (s s' : Store) (t : ℕ) → Audited s → all is_char w ≡ true → make_constant w s ≡ ok s' t → ConstantMade w s s' t
unfolding make_constant constant_of
constant-kept w s s' t a good e =
    found-or-made (constant_of w) (texted 1 w) s s' t
    (λ same h. record {
      made = found_in s s' t 1 a same (eqb-true _ _ (both_left (is_constant s t) _ h));
      text_is = ap (λ (x : Store). text x t) same ∙ word_is _ _ (both_right (is_constant s t) _ h);
    })
    (λ q d. constant-added w s s' t a good (text-added 1 w s s' t d)) e

pub constant-stops : (w : List ℕ) (s : Store) (n : ℕ) → make_constant w s ≡ stop n → n ≡ 8
unfolding make_constant
constant-stops w s n e = lowest-stops (constant_of w) (texted 1 w) s n (text-stops 1 w s n) e

-- VARIABLES

pub record VariableMade (w : List ℕ) (s s' : Store) (t : ℕ) : Type 0 where
  pub made : MadeIn s s' t 2
  pub text_is : text s' t ≡ w

-- a variable that is new: any word can be chosen for it
pub record Fresh (s s' : Store) (z : ℕ) : Type 0 where
  pub made : MadeIn s s' z 2
  pub number : z ≡ suc (count s)
  pub choose : (w : Words) → Reading s w → (u : List ℕ) → all is_char u ≡ true → Chosen s s' w z u

absent_name : (w : List ℕ) (s : Store) → Absent (named w) s → (t : ℕ) → kind s t ≡ 2 → text s t ≡ w → ⊥
unfolding named
absent_name w s q t e f = clash (both_true (is_variable s t) _ (eq-eqb _ _ e) (word_same _ _ f)) (q t (kind-term s t 1 e))

variable-new : (w : List ℕ) (s : Store) → Audited s → 1 ≤ length w → Absent (named w) s → count s < s.room.terms → length s.chars + length w ≤ s.room.chars → New s s.cells (s.chars ++ w) 2 (length s.chars) (length w)
unfolding within
variable-new w s a filled q h f = record {
  kinds = refl;
  constant = λ e. absurd (omega arith);
  variable = λ e. record { fits = simp length-append (omega arith); long = filled; unique = λ t d i. absent_name w s q t d (i ∙ text-read s 2 w) };
  concat = λ e. absurd (omega arith);
  length_of_term = λ e. absurd (omega arith);
  equation = λ e. absurd (omega arith);
  room = record { terms = h; cells = a.roomy.cells; chars = simp length-append (omega arith) };
}

module _ (w : List ℕ) (s s' : Store) (t : ℕ) (audited : Audited s) (good : all is_char w ≡ true) (filled : 1 ≤ length w) where
  variable-added : Absent (named w) s → TextAdded 2 w s s' t → VariableMade w s s' t
  variable-added q x =
      at-made (VariableMade w s) x.is x.number (record {
        made = grow_in s s.cells (s.chars ++ w) 2 (length s.chars) (length w) audited (text-more s w audited.recorded good) (variable-new w s audited filled q x.room x.fits);
        text_is = ap (text_in (s.chars ++ w)) (new_term s s.cells (s.chars ++ w) 2 (length s.chars) (length w)) ∙ text-read s 2 w;
      })

  chosen-added : Absent (named w) s → TextAdded 2 w s s' t → (v : Words) → Reading s v → (u : List ℕ) → all is_char u ≡ true → Chosen s s' v t u
  chosen-added q x v r u h =
      at-made (λ y i. Chosen s y v i u) x.is x.number
      (choose s s.cells (s.chars ++ w) 2 (length s.chars) (length w) audited (text-more s w audited.recorded good) (variable-new w s audited filled q x.room x.fits) refl v r u h)

  pub variable-kept : make_variable w s ≡ ok s' t → VariableMade w s s' t
  unfolding make_variable named
  variable-kept e =
      found-or-made (named w) (texted 2 w) s s' t
      (λ same h. record {
        made = found_in s s' t 2 audited same (eqb-true _ _ (both_left (is_variable s t) _ h));
        text_is = ap (λ (x : Store). text x t) same ∙ word_is _ _ (both_right (is_variable s t) _ h);
      })
      (λ q d. variable-added q (text-added 2 w s s' t d)) e

  -- a variable whose name no other has
  pub variable-fresh : Absent (named w) s → make_variable w s ≡ ok s' t → Fresh s s' t
  unfolding make_variable named
  variable-fresh q e =
      found-or-made (named w) (texted 2 w) s s' t
      (λ same h. clash h (q t (kind-term s t 1 (eqb-true _ _ (both_left (is_variable s t) _ h)))))
      (λ _ d. let x = text-added 2 w s s' t d in record { made = (variable-added q x).made; number = x.number; choose = chosen-added q x }) e

pub variable-stops : (w : List ℕ) (s : Store) (n : ℕ) → make_variable w s ≡ stop n → n ≡ 8
unfolding make_variable
variable-stops w s n e = lowest-stops (named w) (texted 2 w) s n (text-stops 2 w s n) e

-- CONCATENATIONS

pub record ConcatMade (l : List ℕ) (s s' : Store) (t : ℕ) : Type 0 where
  pub made : MadeIn s s' t 3
  pub parts_is : parts s' t ≡ l

-- the cells with those of a chain of l
abbrev chained : Store → List ℕ → List Cell
chained s l = s.cells ++ chain_from (suc (length s.cells)) l

record ChainAdded (l : List ℕ) (s s' : Store) (t : ℕ) : Type 0 where
  room : count s < s.room.terms
  fits : length s.cells + length l ≤ s.room.cells
  is : s' ≡ grow s (chained s l) s.chars 3 (suc (length s.cells)) 0
  number : t ≡ suc (count s)

-- the concatenation of a chain
abbrev joined_up : List ℕ → Work ℕ
joined_up l = add_chain l >>= (λ c. add_term 3 c 0)

chain-added : (l : List ℕ) (s s' : Store) (t : ℕ) → joined_up l s ≡ ok s' t → ChainAdded l s s' t
unfolding add_chain
chain-added l s s' t e =
    via (λ c. add_term 3 c 0) (add_chain l s) e (λ s₁ c q r.
    let i = put-given (leb (length s.cells + length l) s.room.cells) (with_cells s (chained s l)) s (suc (length s.cells)) s₁ c q in
    go s₁ c i.store_is i.value_is (leb-true _ _ i.room) r)
  where
    go : (s₁ : Store) (c : ℕ) → with_cells s (chained s l) ≡ s₁ → suc (length s.cells) ≡ c → length s.cells + length l ≤ s.room.cells → add_term 3 c 0 s₁ ≡ ok s' t → ChainAdded l s s' t
    go s₁ c i j h r =
        let d : add_term 3 (suc (length s.cells)) 0 (with_cells s (chained s l)) ≡ ok s' t = cc in
        let u = term-added 3 (suc (length s.cells)) 0 (with_cells s (chained s l)) s' t d in
        record { room = u.room; fits = h; is = u.is; number = u.number }

chain-stops : (l : List ℕ) (s : Store) (n : ℕ) → joined_up l s ≡ stop n → n ≡ 8
unfolding add_chain
chain-stops l s n e = go (add_chain l s) refl e
  where
    go : (o : Out ℕ) → add_chain l s ≡ o → and_then (λ c. add_term 3 c 0) o ≡ stop n → n ≡ 8
    go (ok s₁ c) q r = term-stops 3 c 0 s₁ n r
    go (stop m) q r =
        let h = put-stops (leb (length s.cells + length l) s.room.cells) (with_cells s (chained s l)) s (suc (length s.cells)) m q in
        let j : m ≡ n = cc in sym j ∙ h

chain_more : (s : Store) (l : List ℕ) → Recorded s → More s (chained s l) s.chars
chain_more s l r = record {
  cells = extends-append s.cells _;
  ascends = ascends-made s.cells l r.nexts;
  chars = omega arith;
  texts = λ x h. refl;
  characters = r.characters;
}

plain-strings : (s : Store) (l : List ℕ) → Every (λ p. is_string s p ≡ true) l → Every (λ p. is_string s p.0 ≡ true) (plain l)
plain-strings s [] none_left = none_left
plain-strings s (p ∷ l) (and h k) = and h (plain-strings s l k)

plain-plain : (l : List ℕ) → Every (λ p. p.1 ≡ 0) (plain l)
plain-plain [] = none_left
plain-plain (p ∷ l) = and refl (plain-plain l)

module _ (l : List ℕ) (s s' : Store) (t : ℕ) (audited : Audited s) (two : 2 ≤ length l) (strings : all (is_string s) l ≡ true) where
  concat-new : count s < s.room.terms → length s.cells + length l ≤ s.room.cells → New s (chained s l) s.chars 3 (suc (length s.cells)) 0
  unfolding within
  concat-new h f = record {
    kinds = refl;
    constant = λ e. absurd (omega arith);
    variable = λ e. absurd (omega arith);
    concat = λ e. record {
      two = subst (λ (m : List (ℕ × ℕ)). 2 ≤ length m) (sym (chain-made s.cells l)) (let p = plain-length l in omega arith);
      strings = subst (Every (λ p. is_string s p.0 ≡ true)) (sym (chain-made s.cells l)) (plain-strings s l (all_every (is_string s) l strings));
      plain = subst (Every (λ p. p.1 ≡ 0)) (sym (chain-made s.cells l)) (plain-plain l);
      second = refl;
    };
    length_of_term = λ e. absurd (omega arith);
    equation = λ e. absurd (omega arith);
    room = record { terms = h; cells = (let p = length-append s.cells (chain_from (suc (length s.cells)) l) in let q = from-length (suc (length s.cells)) l in omega arith); chars = audited.roomy.chars };
  }

  concat-added : ChainAdded l s s' t → ConcatMade l s s' t
  concat-added x =
      at-made (ConcatMade l s) x.is x.number (record {
        made = grow_in s (chained s l) s.chars 3 (suc (length s.cells)) 0 audited (chain_more s l audited.recorded) (concat-new x.room x.fits);
        parts_is = ap (λ (y : Term). firsts (chain_in (chained s l) y.first)) (new_term s (chained s l) s.chars 3 (suc (length s.cells)) 0) ∙ ap firsts (chain-made s.cells l) ∙ plain-firsts l;
      })

  pub concat-kept : make_concat l s ≡ ok s' t → ConcatMade l s s' t
  unfolding make_concat concat_of
  concat-kept e =
      found-or-made (concat_of l) (joined_up l) s s' t
      (λ same h. record {
        made = found_in s s' t 3 audited same (eqb-true _ _ (both_left (is_concat s t) _ h));
        parts_is = ap (λ (x : Store). parts x t) same ∙ word_is _ _ (both_right (is_concat s t) _ h);
      })
      (λ q d. concat-added (chain-added l s s' t d)) e

pub concat-stops : (l : List ℕ) (s : Store) (n : ℕ) → make_concat l s ≡ stop n → n ≡ 8
unfolding make_concat
concat-stops l s n e = lowest-stops (concat_of l) (joined_up l) s n (chain-stops l s n) e

-- LENGTHS AND EQUATIONS

same_more : (s : Store) → Recorded s → More s s.cells s.chars
same_more s r = record { cells = extends-refl s.cells; ascends = r.nexts; chars = omega arith; texts = λ x h. refl; characters = r.characters }

pub record LengthMade (a : ℕ) (s s' : Store) (t : ℕ) : Type 0 where
  pub made : MadeIn s s' t 4
  pub first_is : (term s' t).first ≡ a

pub record EquationMade (a b : ℕ) (s s' : Store) (t : ℕ) : Type 0 where
  pub made : MadeIn s s' t 5
  pub first_is : (term s' t).first ≡ a
  pub second_is : (term s' t).second ≡ b

module _ (a : ℕ) (s s' : Store) (t : ℕ) (audited : Audited s) (string : is_string s a ≡ true) where
  length-new : count s < s.room.terms → New s s.cells s.chars 4 a 0
  unfolding within
  length-new h = record {
    kinds = refl;
    constant = λ e. absurd (omega arith);
    variable = λ e. absurd (omega arith);
    concat = λ e. absurd (omega arith);
    length_of_term = λ e. record { string = string; second = refl };
    equation = λ e. absurd (omega arith);
    room = record { terms = h; cells = audited.roomy.cells; chars = audited.roomy.chars };
  }

  length-added : TermAdded 4 a 0 s s' t → LengthMade a s s' t
  length-added x =
      at-made (LengthMade a s) x.is x.number (record {
        made = grow_in s s.cells s.chars 4 a 0 audited (same_more s audited.recorded) (length-new x.room);
        first_is = ap (λ (y : Term). y.first) (new_term s s.cells s.chars 4 a 0);
      })

  pub length-kept : make_length a s ≡ ok s' t → LengthMade a s s' t
  unfolding make_length length_of
  length-kept e =
      found-or-made (length_of a) (add_term 4 a 0) s s' t
      (λ same h. record {
        made = found_in s s' t 4 audited same (eqb-true _ _ (both_left (is_length s t) _ h));
        first_is = ap (λ (x : Store). (term x t).first) same ∙ eqb-true _ _ (both_right (is_length s t) _ h);
      })
      (λ q d. length-added (term-added 4 a 0 s s' t d)) e

pub length-stops : (a : ℕ) (s : Store) (n : ℕ) → make_length a s ≡ stop n → n ≡ 8
unfolding make_length
length-stops a s n e = lowest-stops (length_of a) (add_term 4 a 0) s n (term-stops 4 a 0 s n) e

module _ (a b : ℕ) (s s' : Store) (t : ℕ) (audited : Audited s) (sides : is_equatable s a b ≡ true) where
  equation-new : count s < s.room.terms → New s s.cells s.chars 5 a b
  unfolding within
  equation-new h = record {
    kinds = refl;
    constant = λ e. absurd (omega arith);
    variable = λ e. absurd (omega arith);
    concat = λ e. absurd (omega arith);
    length_of_term = λ e. absurd (omega arith);
    equation = λ e. sides;
    room = record { terms = h; cells = audited.roomy.cells; chars = audited.roomy.chars };
  }

  equation-added : TermAdded 5 a b s s' t → EquationMade a b s s' t
  equation-added x =
      at-made (EquationMade a b s) x.is x.number (record {
        made = grow_in s s.cells s.chars 5 a b audited (same_more s audited.recorded) (equation-new x.room);
        first_is = ap (λ (y : Term). y.first) (new_term s s.cells s.chars 5 a b);
        second_is = ap (λ (y : Term). y.second) (new_term s s.cells s.chars 5 a b);
      })

  pub equation-kept : make_equation a b s ≡ ok s' t → EquationMade a b s s' t
  unfolding make_equation equation_of
  equation-kept e =
      found-or-made (equation_of a b) (add_term 5 a b) s s' t
      (λ same h. let q = both_left (is_equation s t && eqb (term s t).first a) (eqb (term s t).second b) h in record {
        made = found_in s s' t 5 audited same (eqb-true _ _ (both_left (is_equation s t) (eqb (term s t).first a) q));
        first_is = ap (λ (x : Store). (term x t).first) same ∙ eqb-true _ _ (both_right (is_equation s t) (eqb (term s t).first a) q);
        second_is = ap (λ (x : Store). (term x t).second) same ∙ eqb-true _ _ (both_right (is_equation s t && eqb (term s t).first a) (eqb (term s t).second b) h);
      })
      (λ q d. equation-added (term-added 5 a b s s' t d)) e

pub equation-stops : (a b : ℕ) (s : Store) (n : ℕ) → make_equation a b s ≡ stop n → n ≡ 8
unfolding make_equation
equation-stops a b s n e = lowest-stops (equation_of a b) (add_term 5 a b) s n (term-stops 5 a b s n) e

-- KEYS

pub record KeyAdded (a b : ℕ) (s s' : Store) : Type 0 where
  pub is : s' ≡ with_keys s (s.keys ++ (ordered a b ∷ []))
  pub audited : Audited s'
  pub grown : Grown s s'
  pub reasons : s'.reasons ≡ s.reasons

-- two different string terms, the lower first
pub key_rule_lem : (a b : ℕ) (s : Store) → is_string s a ≡ true → is_string s b ≡ true → (a ≡ b → ⊥) → key_rule s (ordered a b) ≡ true
unfolding key_rule
key_rule_lem a b s p q d = decide (leb a b) (λ h. low (leb-true a b h)) (λ h. high (leb-false a b h))
  where
    rule : (x y : ℕ) → x < y → is_string s x ≡ true → is_string s y ≡ true → (ltb x y && is_string s x && is_string s y) ≡ true
    rule x y h i j = both_true (ltb x y && is_string s x) _ (both_true (ltb x y) _ (lt-ltb x y h) i) j

    low : a ≤ b → (ltb (min a b) (max a b) && is_string s (min a b) && is_string s (max a b)) ≡ true
    low h = rw (min-eq_left h, max-eq_right h) (rule a b (lt_of h) p q)
      where
        lt_of : a ≤ b → a < b
        lt_of h = ⊎_elim (λ e. absurd (d e)) (λ l. l) (eq-or-lt_of_le h)

    high : b < a → (ltb (min a b) (max a b) && is_string s (min a b) && is_string s (max a b)) ≡ true
    high h = let e : min a b ≡ b = min-eq_right (omega arith) in let f : max a b ≡ a = max-eq_left (omega arith) in rw (e, f) (rule b a h q p)

key_room_lem : (a b : ℕ) (s s' : Store) {u : Unit {0}} → add_key a b s ≡ ok s' u → (length s.keys < s.room.keys) × (s' ≡ with_keys s (s.keys ++ (ordered a b ∷ [])))
unfolding add_key
key_room_lem a b s s' e = branch (ltb (length s.keys) s.room.keys) _ _ {s = s} (λ c d. (ltb-true _ _ c, cc)) (λ c d. stop-not d) e

pub key_audited : (a b : ℕ) (s s' : Store) → Audited s → key_rule s (ordered a b) ≡ true → {u : Unit {0}} → add_key a b s ≡ ok s' u → Audited s'
unfolding all
key_audited a b s s' audited good e =
    let p = key_room_lem a b s s' e in
    let h = p.0 in
    let n = length-append s.keys (ordered a b ∷ []) in
    let f = all_append (key_rule s) s.keys (ordered a b ∷ []) ∙ both_true _ _ audited.recorded.keys (both_true _ _ good refl) in
    subst Audited (sym p.1) (audited-beside s s.reasons (s.keys ++ (ordered a b ∷ [])) s.names audited audited.recorded.reasons f audited.roomy.reasons (omega arith))

pub key_kept : (a b : ℕ) (s s' : Store) → Audited s → is_string s a ≡ true → is_string s b ≡ true → (a ≡ b → ⊥) → add_key a b s ≡ ok s' tt → KeyAdded a b s s'
key_kept a b s s' audited i j d e =
    let p = key_room_lem a b s s' e in
    let l = s.keys ++ (ordered a b ∷ []) in
    record {
      is = p.1;
      audited = key_audited a b s s' audited (key_rule_lem a b s i j d) e;
      grown = subst (Grown s) (sym p.1) (grown-beside s s.reasons l s.names);
      reasons = ap (λ (x : Store). x.reasons) p.1;
    }

pub key_stops : (a b : ℕ) (s : Store) (n : ℕ) → add_key a b s ≡ stop n → n ≡ 8
unfolding add_key
key_stops a b s n e = go (ltb (length s.keys) s.room.keys) e
  where
    go : (c : Bool) → (if c then put (with_keys s (s.keys ++ (ordered a b ∷ []))) else refuse 8) s ≡ stop n → n ≡ 8
    go true d = let z : ◌≡◌ {A = ℕ} 0 1 = cc in absurd (omega arith)
    go false d = cc

-- NAMES

digit_character : (d : ℕ) → d < 10 → all is_char ((48 + d) ∷ []) ≡ true
unfolding is_char all
digit_character d h = both_true _ true (lt-ltb (48 + d) 0x3_0000 (omega arith)) refl

decimal-characters : (n x : ℕ) → all is_char (decimal_by n x) ≡ true
unfolding decimal_by all
decimal-characters zero x = refl
decimal-characters (suc n) x = go (ltb x 10) refl (decimal-characters n (x / 10))
  where
    go : (b : Bool) → ltb x 10 ≡ b → all is_char (decimal_by n (x / 10)) ≡ true → all is_char (elim b [ true ↦ (48 + x) ∷ [] | false ↦ decimal_by n (x / 10) ++ ((48 + x % 10) ∷ []) ]) ≡ true
    go true e ih = digit_character x (ltb-true x 10 e)
    go false e ih = all_append is_char (decimal_by n (x / 10)) ((48 + x % 10) ∷ []) ∙ both_true (all is_char (decimal_by n (x / 10))) _ ih (digit_character (x % 10) (mod-lt x (omega arith)))

pub name_characters : (x : ℕ) → all is_char (name_of x) ≡ true
unfolding name_of is_char all
name_characters x = all_append is_char strk (decimal_by 10 x) ∙ both_true _ _ refl (decimal-characters 10 x)

pub name_filled : (x : ℕ) → 1 ≤ length (name_of x)
unfolding name_of
name_filled x = let p = length-append strk (decimal_by 10 x) in omega arith

-- a name taken: the store but for its counter, and a name that no variable has
pub record NameTaken (s s' : Store) (w : List ℕ) : Type 0 where
  pub number : ℕ
  pub counter : s.names ≤ number
  pub name_is : w ≡ name_of number
  pub is : s' ≡ with_names s (suc number)
  pub new : lookup (named w) s' ≡ none

free-none : (x : ℕ) (s : Store) → is_taken s x ≡ false → lookup (named (name_of x)) s ≡ none
unfolding is_taken
free-none x s e = go (lookup (named (name_of x)) s) e
  where
    go : (o : Option ℕ) → is_some o ≡ false → o ≡ none
    go none d = refl
    go (some i) d = absurd (false≢true (sym d))

lookup-beside : (w : List ℕ) (s : Store) (m : ℕ) → lookup (named w) (with_names s m) ≡ lookup (named w) s
unfolding lookup named
lookup-beside w s m = refl

taken-by : (n : ℕ) (s s' : Store) (w : List ℕ) → take_name_by n s ≡ ok s' w → NameTaken s s' w
unfolding take_name_by
taken-by zero s s' w e = stop-not e
taken-by (suc n) s s' w e = go (is_taken s s.names) refl (taken-by n (with_names s (suc s.names)) s' w) e
  where
    here : with_names s (suc s.names) ≡ s' → name_of s.names ≡ w → is_taken s s.names ≡ false → NameTaken s s' w
    here p q f = record {
      number = s.names;
      counter = omega arith;
      name_is = sym q;
      is = sym p;
      new = rw (← p, ← q) (lookup-beside (name_of s.names) s (suc s.names) ∙ free-none s.names s f);
    }

    go : (b : Bool) → is_taken s s.names ≡ b → (take_name_by n (with_names s (suc s.names)) ≡ ok s' w → NameTaken (with_names s (suc s.names)) s' w)
        → ◌≡◌ {A = Out (List ℕ)} (elim b [ true ↦ take_name_by n (with_names s (suc s.names)) | false ↦ ok (with_names s (suc s.names)) (name_of s.names) ]) (ok s' w) → NameTaken s s' w
    go true f ih d = let x = ih d in record { number = x.number; counter = (let h = x.counter in omega arith); name_is = x.name_is; is = x.is; new = x.new }
    go false f ih d = here (cc) (cc) f

pub name_taken : (s s' : Store) (w : List ℕ) → take_name s ≡ ok s' w → NameTaken s s' w
unfolding take_name
name_taken s s' w e = taken-by (name_limit - s.names) s s' w e

pub names-audited : (s : Store) (m : ℕ) → Audited s → Audited (with_names s m)
names-audited s m a = audited-beside s s.reasons s.keys m a a.recorded.reasons a.recorded.keys a.roomy.reasons a.roomy.keys

pub names-grown : (s : Store) (m : ℕ) → Grown s (with_names s m)
names-grown s m = grown-beside s s.reasons s.keys m

pub name_audited : (s s' : Store) (w : List ℕ) → Audited s → take_name s ≡ ok s' w → Audited s'
name_audited s s' w a e = let x = name_taken s s' w e in subst Audited (sym x.is) (names-audited s _ a)

stops-by : (m : ℕ) (s : Store) (n : ℕ) → take_name_by m s ≡ stop n → n ≡ 9
unfolding take_name_by
stops-by zero s n e = cc
stops-by (suc m) s n e = go (is_taken s s.names) (stops-by m (with_names s (suc s.names)) n) e
  where
    go : (b : Bool) → (take_name_by m (with_names s (suc s.names)) ≡ stop n → n ≡ 9) → ◌≡◌ {A = Out (List ℕ)} (elim b [ true ↦ take_name_by m (with_names s (suc s.names)) | false ↦ ok (with_names s (suc s.names)) (name_of s.names) ]) (stop n) → n ≡ 9
    go true ih d = ih d
    go false ih d = let z : ◌≡◌ {A = ℕ} 0 1 = cc in absurd (omega arith)

pub name_stops : (s : Store) (n : ℕ) → take_name s ≡ stop n → n ≡ 9
unfolding take_name
name_stops s n e = stops-by (name_limit - s.names) s n e

-- a variable of a name just taken
pub fresh_kept : (s s' : Store) (z : ℕ) → Audited s → (take_name >>= make_variable) s ≡ ok s' z → Fresh s s' z
fresh_kept s s' z a e =
    via make_variable (take_name s) e (λ s₁ w p q.
    let x = name_taken s s₁ w p in
    go s₁ w (suc x.number) x.is (none-absent (named w) s₁ x.new) (ap (all is_char) x.name_is ∙ name_characters x.number) (subst (λ (v : List ℕ). 1 ≤ length v) (sym x.name_is) (name_filled x.number)) q)
  where
    here : (w : List ℕ) (m : ℕ) → Fresh (with_names s m) s' z → Fresh s s' z
    here w m f = record {
      made = record {
        audited = f.made.audited;
        grown = grown-then (names-grown s m) f.made.grown;
        appends = after_names m f.made.appends;
        kind_is = f.made.kind_is;
        variables = f.made.variables;
        cells = f.made.cells;
        chars = f.made.chars;
        reasons = f.made.reasons;
        keys = f.made.keys;
        room = f.made.room;
      };
      number = f.number;
      choose = λ v r u h.
          let c = f.choose v (reading-beside s s.reasons s.keys m v r) u h in
          record {
            extends = record {
              words = c.extends.words;
              reading = c.extends.reading;
              agree = c.extends.agree;
              held = λ rs k. c.extends.held rs (holds-beside s s.reasons s.keys m v rs k);
            };
            word = c.word;
          };
    }

    go : (s₁ : Store) (w : List ℕ) (m : ℕ) → s₁ ≡ with_names s m → Absent (named w) s₁ → all is_char w ≡ true → 1 ≤ length w → make_variable w s₁ ≡ ok s' z → Fresh s s' z
    go s₁ w m i absent good filled d =
        here w m (variable-fresh w (with_names s m) s' z (names-audited s m a) good filled (subst (λ (x : Store). Absent (named w) x) i absent) (subst (λ (x : Store). make_variable w x ≡ ok s' z) i d))

pub fresh-stops : (s : Store) (n : ℕ) → (take_name >>= make_variable) s ≡ stop n → (n ≡ 8) ⊎ (n ≡ 9)
fresh-stops s n e = go (take_name s) refl e
  where
    go : (o : Out (List ℕ)) → take_name s ≡ o → and_then make_variable o ≡ stop n → (n ≡ 8) ⊎ (n ≡ 9)
    go (ok s₁ w) q r = inl (variable-stops w s₁ n r)
    go (stop m) q r = let j : m ≡ n = cc in inr (sym j ∙ name_stops s m q)
