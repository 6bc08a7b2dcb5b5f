-- Working functions in sequence: the second goes on from the slices and counts that the first left, and what was counted at entry is kept.
use Rattle.std.specs.Prelude.{if◌then◌else◌}
use mathlib.Core.Path.{◌≡◌, refl, sym, ap, subst, ◌∙◌}
use mathlib.Core.Bool.{Bool, true, false}
use mathlib.Core.List.{List, [], ◌∷◌, ◌++◌}
use mathlib.Core.Option.{Option, none, some}
use Prim.Native.Nat.{ℕ, suc, ◌+◌}
use native.Mathlib.Omega.{arith}
use lib.ListN.{length, length-append}
use lib.Dec.{ltb, leb}
use Rattle.records.specs.declared.State.{State}
use Rattle.std.specs.Prelude.{Result, Ok, Err}
use Rattle.records.specs.declared.refusal.Refusal.{Refusal}
use Rattle.records.specs.Refusal.{number}
use Rattle.records.specs.Store.{Store, Out, ok, stop, Work, and_then, ◌>>=◌, ◌>>◌, give, refuse, put, count, is_string}
use Rattle.records.specs.View.{Lent, store_of}
use Rattle.records.specs.Rules.{named}
use Rattle.records.specs.Make.{with_keys, with_chars, with_cells, with_terms, own, ordered, add_key, add_text, add_chain, chain_from, add_term, lookup, or_make, lowest, constant_of, concat_of, length_of, equation_of, make_constant, make_variable, make_concat, make_length, make_equation, take_name}
use Rattle.records.specs.Calls.{made, added}
use Rattle.records.specs.Working.Audited.{Ready}
use Rattle.records.specs.Working.Doing.{Working}
use Rattle.records.proofs.Works.{stop-not, via}
use Rattle.records.proofs.Kept.{name_taken}
use Rattle.records.proofs.Doing.{working_stopped, working_at}
use Rattle.records.proofs.Counts.{Higher, higher-none, higher-then}
use Rattle.records.proofs.IndexStores.{keeps_then}
use Rattle.records.proofs.ListLaws.{string-stays}

-- WORK THAT TAKES NOTHING AWAY

-- no count is lower after it
pub record Grows {A : Type 0} (w : Work A) : Type 0 where
  pub higher : (s s' : Store) (a : A) → w s ≡ ok s' a → Higher s s'

pub grows_then : {A B : Type 0} {w : Work A} {f : A → Work B} → Grows w → ((a : A) → Grows (f a)) → Grows (w >>= f)
grows_then {w = w} {f = f} p q = record { higher = λ s s' b e. via f (w s) e (λ s₁ a i j. higher-then (p.higher s s₁ a i) ((q a).higher s₁ s' b j)) }

pub grows-give : {A : Type 0} (a : A) → Grows (give a)
grows-give a = record { higher = λ s s' b e. let q : s ≡ s' = cc in subst (Higher s) q (higher-none s) }

-- a write where there is room
grows-put : (b : Bool) (s₁ : Store) (k : ℕ) (s s' : Store) (u : Unit {0}) → Higher s s₁ → (if b then put s₁ else refuse k) s ≡ ok s' u → Higher s s'
grows-put true s₁ k s s' u h e = let q : s₁ ≡ s' = cc in subst (Higher s) q h
grows-put false s₁ k s s' u h e = stop-not e

grows_write : {A : Type 0} (b : Bool) (s₁ : Store) (k : ℕ) (a : A) (s s' : Store) (x : A) → Higher s s₁ → ((if b then put s₁ else refuse k) >> give a) s ≡ ok s' x → Higher s s'
grows_write true s₁ k a s s' x h e = let q : s₁ ≡ s' = cc in subst (Higher s) q h
grows_write false s₁ k a s s' x h e = stop-not e

grows-term : (k a b : ℕ) → Grows (add_term k a b)
unfolding add_term
grows-term k a b = record {
  higher = λ s s' t e.
      let n = length-append s.terms (own (suc (count s)) k a b ∷ []) in
      grows_write (ltb (count s) s.room.terms) (with_terms s (s.terms ++ (own (suc (count s)) k a b ∷ []))) 8 (suc (count s)) s s' t
      (record { terms = omega arith; cells = omega arith; chars = omega arith; reasons = omega arith; keys = omega arith }) e;
}

grows-text : (w : List ℕ) → Grows (add_text w)
unfolding add_text
grows-text w = record {
  higher = λ s s' t e.
      let n = length-append s.chars w in
      grows_write (leb (length s.chars + length w) s.room.chars) (with_chars s (s.chars ++ w)) 8 (length s.chars) s s' t
      (record { terms = omega arith; cells = omega arith; chars = omega arith; reasons = omega arith; keys = omega arith }) e;
}

grows-chain : (l : List ℕ) → Grows (add_chain l)
unfolding add_chain
grows-chain l = record {
  higher = λ s s' t e.
      let c = suc (length s.cells) in
      let n = length-append s.cells (chain_from (suc (length s.cells)) l) in
      grows_write (leb (length s.cells + length l) s.room.cells) (with_cells s (s.cells ++ chain_from (suc (length s.cells)) l)) 8 (suc (length s.cells)) s s' t
      (record { terms = omega arith; cells = omega arith; chars = omega arith; reasons = omega arith; keys = omega arith }) e;
}

grows-lowest : (equal : Store → ℕ → Bool) {make : Work ℕ} → Grows make → Grows (lowest equal make)
unfolding lowest
grows-lowest equal {make} g = record { higher = λ s s' t e. go s s' t (lookup equal s) e }
  where
    go : (s s' : Store) (t : ℕ) (o : Option ℕ) → or_make make o s ≡ ok s' t → Higher s s'
    go s s' t none e = g.higher s s' t e
    go s s' t (some i) e = let q : s ≡ s' = cc in subst (Higher s) q (higher-none s)

pub grows-constant : (w : List ℕ) → Grows (make_constant w)
unfolding make_constant
grows-constant w = grows-lowest (constant_of w) (grows_then (grows-text w) (λ p. grows-term 1 p (length w)))

pub grows-variable : (w : List ℕ) → Grows (make_variable w)
unfolding make_variable
grows-variable w = grows-lowest (named w) (grows_then (grows-text w) (λ p. grows-term 2 p (length w)))

pub grows-concat : (l : List ℕ) → Grows (make_concat l)
unfolding make_concat
grows-concat l = grows-lowest (concat_of l) (grows_then (grows-chain l) (λ c. grows-term 3 c 0))

pub grows-length : (a : ℕ) → Grows (make_length a)
unfolding make_length
grows-length a = grows-lowest (length_of a) (grows-term 4 a 0)

pub grows-equation : (a b : ℕ) → Grows (make_equation a b)
unfolding make_equation
grows-equation a b = grows-lowest (equation_of a b) (grows-term 5 a b)

pub grows_key : (a b : ℕ) → Grows (add_key a b)
unfolding add_key
grows_key a b = record {
  higher = λ s s' u e.
      let n = length-append s.keys (ordered a b ∷ []) in
      grows-put (ltb (length s.keys) s.room.keys) (with_keys s (s.keys ++ (ordered a b ∷ []))) 8 s s' u
      (record { terms = omega arith; cells = omega arith; chars = omega arith; reasons = omega arith; keys = omega arith }) e;
}

pub grows_name : Grows take_name
grows_name = record {
  higher = λ s s' w e.
      let x = name_taken s s' w e in
      subst (Higher s) (sym x.is) (record { terms = omega arith; cells = omega arith; chars = omega arith; reasons = omega arith; keys = omega arith });
}

-- SEQUENCE

module _ {A B : Type 0} {w : Work A} (f : A → Work B) {m m₁ : Lent} {c : State} where
  pub working_then : (c₁ : State) (a : A) → Grows w → Working w m m₁ c (ok (store_of m₁ c₁) a) → {m₂ : Lent} {o : Out B} → Working (f a) m₁ m₂ c₁ o → Working (w >>= f) m m₂ c o
  working_then c₁ a g p {m₂} q = record {
    says = ap (and_then f) p.says ∙ q.says;
    kept = keeps_then (g.higher (store_of m c) (store_of m₁ c₁) a p.says) p.kept q.kept;
    ready = q.ready;
  }

  pub working_stop : {k : ℕ} → Working w m m₁ c (stop k) → Working (w >>= f) m m₁ c (stop k)
  working_stop p = working_stopped (ap (and_then f) p.says) p.kept

module _ {m m₁ : Lent} {c : State} where
  -- after a reason or a key was added
  pub added-at : {w : Work (Unit {0})} {x y : Result State Refusal} → x ≡ y → Working w m m₁ c (added x m₁) → Working w m m₁ c (added y m₁)
  added-at e w = working_at (ap (λ (z : Result State Refusal). added z m₁) e) w

  pub added-ready : {w : Work (Unit {0})} {x : Result State Refusal} {d : State} → x ≡ Ok d → Working w m m₁ c (added x m₁) → Ready m₁ d
  added-ready {d = d} e w = (added-at e w).ready d tt refl

  -- after a term was made
  pub made_at : {w : Work ℕ} {r r₁ : Result (ℕ × State) Refusal} → r ≡ r₁ → Working w m m₁ c (made r m₁) → Working w m m₁ c (made r₁ m₁)
  made_at e w = working_at (ap (λ (x : Result (ℕ × State) Refusal). made x m₁) e) w

  pub made-ready : {w : Work ℕ} {r : Result (ℕ × State) Refusal} {x : ℕ × State} → r ≡ Ok x → Working w m m₁ c (made r m₁) → Ready m₁ x.1
  made-ready {x = x} e w = (made_at e w).ready x.1 x.0 refl

  pub made-stays : {w : Work ℕ} {r : Result (ℕ × State) Refusal} {x : ℕ × State} → Grows w → r ≡ Ok x → Working w m m₁ c (made r m₁) → (v : ℕ) → is_string (store_of m c) v ≡ true → is_string (store_of m₁ x.1) v ≡ true
  made-stays {x = x} g e w = string-stays m m₁ c x.1 (g.higher (store_of m c) (store_of m₁ x.1) x.0 (made_at e w).says) w.kept.store

module _ {w : Work ℕ} {m m₁ : Lent} {c : State} {r : Result (ℕ × State) Refusal} where
  pub made-is : {x : ℕ × State} → r ≡ Ok x → Working w m m₁ c (made r m₁) → Working w m m₁ c (ok (store_of m₁ x.1) x.0)
  made-is e p = made_at e p

  pub made-stops : {k : Refusal} → r ≡ Err k → Working w m m₁ c (made r m₁) → Working w m m₁ c (stop (number k))
  made-stops e p = made_at e p

module _ {w : Work ℕ} {B : Type 0} (f : ℕ → Work B) {m m₁ : Lent} {c : State} {r : Result (ℕ × State) Refusal} where
  pub made_then : {x : ℕ × State} → Grows w → r ≡ Ok x → Working w m m₁ c (made r m₁) → {m₂ : Lent} {o : Out B} → Working (f x.0) m₁ m₂ x.1 o → Working (w >>= f) m m₂ c o
  made_then {x} g e p q = working_then f x.1 x.0 g (made-is e p) q

  pub made-stop : {k : Refusal} → r ≡ Err k → Working w m m₁ c (made r m₁) → Working (w >>= f) m m₁ c (stop (number k))
  made-stop e p = working_stop f (made-stops e p)
