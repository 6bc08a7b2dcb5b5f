-- The ways of making step 7's atoms: each make goes on from where the one before it ended.
use mathlib.Core.Path.{◌≡◌, refl, sym, ap, ◌∙◌}
use mathlib.Core.Bool.{true}
use mathlib.Core.List.{List, [], ◌∷◌}
use mathlib.Core.Option.{none}
use Prim.Native.Nat.{ℕ, ◌≤◌}
use native.Mathlib.Omega.{arith}
use lib.ListN.{length, take, set}
use borrow.Author.Tests.{le-leb}
use Rattle.records.specs.declared.State.{State}
use Rattle.std.specs.Prelude.{Ok, Err}
use Rattle.records.specs.declared.refusal.Refusal.{Refusal}
use Rattle.records.specs.Refusal.{number}
use Rattle.records.specs.declared.Named.{Named}
use Rattle.records.specs.Lists.{all}
use Rattle.records.specs.Store.{Store, Out, ok, stop, Work, and_then, ◌>>=◌, give, within, is_constant, is_string, text}
use Rattle.records.specs.View.{Lent, store_of}
use Rattle.records.specs.Rules.{is_char, named}
use Rattle.records.specs.Make.{lookup, make_constant, make_variable, make_concat, make_length, make_equation, variable_arguments, concat_arguments, equation_arguments, name_of, take_name}
use Rattle.records.specs.Working.Audited.{Ready}
use Rattle.records.specs.Working.Doing.{Working, Taken}
use Rattle.records.proofs.Lists.{both_true}
use Rattle.records.proofs.Works.{branch}
use Rattle.records.proofs.Grown.{grown-string, grown-kind}
use Rattle.records.proofs.Kept.{made-string, name_characters, name_filled, NameTaken, name_taken, fresh_kept}
use Rattle.records.proofs.IndexStores.{keeps_same}
use Rattle.records.proofs.Doing.{working_same, working_stopped, constant-fit, concat-fit, length-fit, working_left}
use Rattle.sides.specs.Wordeq.{Tried, fresh_variable}
use Rattle.wordeq.specs.Working.Splits.{prefix_atom, empty_atom, character_atom, lengths_atom, character_atoms, prefix_atoms, head_atoms}
use Rattle.wordeq.specs.Working.Heads.{atoms_by, atoms_of}
use Rattle.sides.proofs.Counted.{equatable_strings, equatable_lengths, character_then, heads_then}
use Rattle.records.proofs.Sequence.{Grows, grows_then, grows-constant, grows-variable, grows-concat, grows-length, grows-equation, grows-give, grows_name, working_then, working_stop}
use Rattle.records.proofs.ListLaws.{string-stays}

-- a term that was counted before a make is a string after it, as it was
pub stays : {w : Work ℕ} {m m₁ : Lent} {c : State} (d : State) {t : ℕ} → Grows w → Working w m m₁ c (ok (store_of m₁ d) t) → (v : ℕ) → is_string (store_of m c) v ≡ true → is_string (store_of m₁ d) v ≡ true
stays {m = m} {m₁ = m₁} {c = c} d {t = t} g w = string-stays m m₁ c d (g.higher (store_of m c) (store_of m₁ d) t w.says) w.kept.store

-- A FRESH VARIABLE

pub grows-fresh : Grows fresh_variable
unfolding fresh_variable
grows-fresh = grows_then grows_name grows-variable

module _ {m : Lent} {c : State} where
  pub named-stop : {e : Refusal} → Taken m c (Err e) → Working fresh_variable m m c (stop (number e))
  unfolding fresh_variable
  named-stop x = working_stop {w = take_name} make_variable (working_stopped x.says keeps_same)

  module _ {r : Named} (x : Taken m c (Ok r)) where
    name-is : Working take_name m m c (ok (store_of m r.state) (take r.len r.name))
    name-is = working_left x.ready x.says keeps_same

    name_of_lem : NameTaken (store_of m c) (store_of m r.state) (take r.len r.name)
    name_of_lem = name_taken (store_of m c) (store_of m r.state) _ name-is.says

    pub named_arguments : variable_arguments (take r.len r.name) (store_of m r.state) ≡ true
    named_arguments =
        let y = name_of_lem in
        ap (λ (w : List ℕ). variable_arguments w (store_of m r.state)) y.name_is ∙ both_true _ _ (le-leb 1 (length (name_of y.number)) (name_filled y.number)) (name_characters y.number)

    pub named_new : lookup (named (take r.len r.name)) (store_of m r.state) ≡ none
    named_new = name_of_lem.new

    pub named-then : {m₁ : Lent} {o : Out ℕ} → Working (make_variable (take r.len r.name)) m m₁ r.state o → Working fresh_variable m m₁ c o
    unfolding fresh_variable
    named-then w = working_then make_variable r.state (take r.len r.name) grows_name name-is w

-- WHAT A MAKE REQUIRES

pub no_characters : all is_char [] ≡ true
unfolding all
no_characters = refl

pub one-character : (ch : ℕ) → is_char ch ≡ true → all is_char (ch ∷ []) ≡ true
unfolding all
one-character ch h = both_true (is_char ch) true h refl

two_parts_lem : (s : Store) (a b : ℕ) → is_string s a ≡ true → is_string s b ≡ true → concat_arguments (a ∷ b ∷ []) s ≡ true
unfolding all
two_parts_lem s a b p q = both_true (is_string s a) _ p (both_true (is_string s b) true q refl)

-- v = h ++ z

module _ {m m₁ : Lent} {c : State} (v h : ℕ) where
  pub prefix_stop : {k : ℕ} → Working fresh_variable m m₁ c (stop k) → Working (prefix_atom v h) m m₁ c (stop k)
  unfolding prefix_atom
  prefix_stop w = working_stop (λ z. make_concat (h ∷ z ∷ []) >>= make_equation v) w

  module _ {d : State} {z : ℕ} (w₁ : Working fresh_variable m m₁ c (ok (store_of m₁ d) z)) {m₂ : Lent} where
    pub prefix_stop_2 : {k : ℕ} → Working (make_concat (h ∷ z ∷ [])) m₁ m₂ d (stop k) → Working (prefix_atom v h) m m₂ c (stop k)
    unfolding prefix_atom
    prefix_stop_2 w₂ = working_then (λ z. make_concat (h ∷ z ∷ []) >>= make_equation v) d z grows-fresh w₁ (working_stop (make_equation v) w₂)

    pub prefix_done : {t : ℕ} {d₂ : State} {m₃ : Lent} {o : Out ℕ} → Working (make_concat (h ∷ z ∷ [])) m₁ m₂ d (ok (store_of m₂ d₂) t) → Working (make_equation v t) m₂ m₃ d₂ o → Working (prefix_atom v h) m m₃ c o
    unfolding prefix_atom
    prefix_done {t} {d₂} w₂ w₃ =
        working_then (λ z. make_concat (h ∷ z ∷ []) >>= make_equation v) d z grows-fresh w₁
        (working_then (make_equation v) d₂ t (grows-concat (h ∷ z ∷ [])) w₂ w₃)

module _ {m m₁ : Lent} {c : State} (d : State) {z : ℕ} (h : ℕ) (ready : Ready m c) (sh : is_string (store_of m c) h ≡ true) (w₁ : Working fresh_variable m m₁ c (ok (store_of m₁ d) z)) where
  pub prefix_parts : concat_arguments (h ∷ z ∷ []) (store_of m₁ d) ≡ true
  unfolding fresh_variable within
  prefix_parts =
      two_parts_lem (store_of m₁ d) h z (stays d grows-fresh w₁ h sh) (made-string (fresh_kept (store_of m c) (store_of m₁ d) z ready.audited w₁.says).made refl)

  pub prefix_sides : (v : ℕ) → is_string (store_of m c) v ≡ true → {m₂ : Lent} {t : ℕ} (d₂ : State) → Working (make_concat (h ∷ z ∷ [])) m₁ m₂ d (ok (store_of m₂ d₂) t) → equation_arguments v t (store_of m₂ d₂) ≡ true
  unfolding within
  prefix_sides v sv {m₂} {t} d₂ w₂ =
      equatable_strings (store_of m₂ d₂) v t (stays d₂ (grows-concat (h ∷ z ∷ [])) w₂ v (stays d grows-fresh w₁ v sv))
      (made-string (concat-fit (store_of m₁ d) (store_of m₂ d₂) t (w₁.ready d z refl).audited (h ∷ z ∷ []) prefix_parts w₂.says) refl)

-- v = ""

module _ {m m₁ : Lent} {c : State} (v : ℕ) where
  pub empty-stop : {k : ℕ} → Working (make_constant []) m m₁ c (stop k) → Working (empty_atom v) m m₁ c (stop k)
  unfolding empty_atom
  empty-stop w = working_stop (make_equation v) w

  module _ (d : State) {t : ℕ} (w₁ : Working (make_constant []) m m₁ c (ok (store_of m₁ d) t)) where
    pub empty-done : {m₂ : Lent} {o : Out ℕ} → Working (make_equation v t) m₁ m₂ d o → Working (empty_atom v) m m₂ c o
    unfolding empty_atom
    empty-done w₂ = working_then (make_equation v) d t (grows-constant []) w₁ w₂

    pub empty-sides : Ready m c → is_string (store_of m c) v ≡ true → equation_arguments v t (store_of m₁ d) ≡ true
    unfolding within
    empty-sides ready sv =
        equatable_strings (store_of m₁ d) v t (stays d (grows-constant []) w₁ v sv)
        (made-string (constant-fit (store_of m c) (store_of m₁ d) t ready.audited [] no_characters w₁.says) refl)

-- v = ch ++ z

module _ {m m₁ : Lent} {c : State} (v ch : ℕ) where
  pub character-stop : {k : ℕ} → Working (make_constant (ch ∷ [])) m m₁ c (stop k) → Working (character_atom v ch) m m₁ c (stop k)
  unfolding character_atom
  character-stop w = working_stop (prefix_atom v) w

  pub character-done : {d : State} {h : ℕ} {m₂ : Lent} {o : Out ℕ} → Working (make_constant (ch ∷ [])) m m₁ c (ok (store_of m₁ d) h) → Working (prefix_atom v h) m₁ m₂ d o → Working (character_atom v ch) m m₂ c o
  unfolding character_atom
  character-done {d} {h} w₁ w₂ = working_then (prefix_atom v) d h (grows-constant (ch ∷ [])) w₁ w₂

pub character-string : {m m₁ : Lent} {c : State} (d : State) {h : ℕ} (ch : ℕ) → Ready m c → is_char ch ≡ true → Working (make_constant (ch ∷ [])) m m₁ c (ok (store_of m₁ d) h) → is_string (store_of m₁ d) h ≡ true
unfolding within
character-string {m} {m₁} {c} d {h = h} ch ready good w₁ =
    made-string (constant-fit (store_of m c) (store_of m₁ d) h ready.audited (ch ∷ []) (one-character ch good) w₁.says) refl

-- EQUAL LENGTHS

module _ {m m₁ : Lent} {c : State} (a b : ℕ) where
  pub lengths-stop : {k : ℕ} → Working (make_length a) m m₁ c (stop k) → Working (lengths_atom a b) m m₁ c (stop k)
  unfolding lengths_atom
  lengths-stop w = working_stop (λ la. make_length b >>= make_equation la) w

  module _ {d : State} {la : ℕ} (w₁ : Working (make_length a) m m₁ c (ok (store_of m₁ d) la)) {m₂ : Lent} where
    pub lengths-stop_2 : {k : ℕ} → Working (make_length b) m₁ m₂ d (stop k) → Working (lengths_atom a b) m m₂ c (stop k)
    unfolding lengths_atom
    lengths-stop_2 w₂ = working_then (λ la. make_length b >>= make_equation la) d la (grows-length a) w₁ (working_stop (make_equation la) w₂)

    module _ {lb : ℕ} (d₂ : State) (w₂ : Working (make_length b) m₁ m₂ d (ok (store_of m₂ d₂) lb)) where
      pub lengths-done : {m₃ : Lent} {o : Out ℕ} → Working (make_equation la lb) m₂ m₃ d₂ o → Working (lengths_atom a b) m m₃ c o
      unfolding lengths_atom
      lengths-done w₃ = working_then (λ la. make_length b >>= make_equation la) d la (grows-length a) w₁ (working_then (make_equation la) d₂ lb (grows-length b) w₂ w₃)

      pub lengths-sides : Ready m c → is_string (store_of m c) a ≡ true → is_string (store_of m c) b ≡ true → equation_arguments la lb (store_of m₂ d₂) ≡ true
      lengths-sides ready sa sb =
          let x = length-fit (store_of m c) (store_of m₁ d) la ready.audited a sa w₁.says in
          let y = length-fit (store_of m₁ d) (store_of m₂ d₂) lb x.audited b (grown-string x.grown b sb) w₂.says in
          equatable_lengths (store_of m₂ d₂) la lb (grown-kind y.grown la 3 x.kind_is) y.kind_is

-- THE LISTS

pub grows_prefix : (v h : ℕ) → Grows (prefix_atom v h)
unfolding prefix_atom
grows_prefix v h = grows_then grows-fresh (λ z. grows_then (grows-concat (h ∷ z ∷ [])) (grows-equation v))

pub grows-empty : (v : ℕ) → Grows (empty_atom v)
unfolding empty_atom
grows-empty v = grows_then (grows-constant []) (grows-equation v)

pub grows-character : (v ch : ℕ) → Grows (character_atom v ch)
unfolding character_atom
grows-character v ch = grows_then (grows-constant (ch ∷ [])) (grows_prefix v)

pub grows-lengths : (a b : ℕ) → Grows (lengths_atom a b)
unfolding lengths_atom
grows-lengths a b = grows_then (grows-length a) (λ la. grows_then (grows-length b) (grows-equation la))

characters-grow : (v ch : ℕ) → Grows (character_atoms v ch)
unfolding character_atoms
characters-grow v ch = grows_then (grows-empty v) (λ p. grows_then (grows-character v ch) (λ q. grows-give (p ∷ q ∷ [])))

heads-grow : (a b : ℕ) → Grows (head_atoms a b)
unfolding head_atoms prefix_atoms
heads-grow a b = grows_then (grows-lengths a b) (λ p. grows_then (grows_prefix a b) (λ q. grows_then (grows_prefix b a) (λ u. grows-give (p ∷ q ∷ u ∷ []))))

pub grows-atoms : (a b : ℕ) → Grows (atoms_of a b)
unfolding atoms_of
grows-atoms a b = record {
  higher = λ s s' l e.
      branch (is_constant s b) _ _ (λ p i. (by a (text s b)).higher s s' l i)
      (λ p i. branch (is_constant s a) _ _ (λ q j. (by b (text s a)).higher s s' l j) (λ q j. (heads-grow a b).higher s s' l j) i) e;
}
  where
    by : (v : ℕ) (w : List ℕ) → Grows (atoms_by v w (head_atoms a b))
    by v [] = heads-grow a b
    by v (x ∷ w) = characters-grow v x

two-put : (l : List ℕ) (p q : ℕ) → 2 ≤ length l → take 2 (set (set l 0 p) 1 q) ≡ p ∷ q ∷ []
two-put [] p q h = absurd (omega arith)
two-put (x ∷ []) p q h = absurd (omega arith)
two-put (x ∷ y ∷ l) p q h = refl

three-put : (l : List ℕ) (p q u : ℕ) → 3 ≤ length l → take 3 (set (set (set l 0 p) 1 q) 2 u) ≡ p ∷ q ∷ u ∷ []
three-put [] p q u h = absurd (omega arith)
three-put (x ∷ []) p q u h = absurd (omega arith)
three-put (x ∷ y ∷ []) p q u h = absurd (omega arith)
three-put (x ∷ y ∷ z ∷ l) p q u h = refl

-- the list as it stands in the slice
given : {m : Lent} {c : State} {l k : List ℕ} → Ready m c → k ≡ l → Working (give l) m m c (ok (store_of m c) k)
given {m} {c} ready e = working_same ready (ap (ok (store_of m c)) (sym e))

module _ {m m₁ : Lent} {c : State} (v ch : ℕ) where
  pub characters-stop : {k : ℕ} → Working (empty_atom v) m m₁ c (stop k) → Working (character_atoms v ch) m m₁ c (stop k)
  unfolding character_atoms
  characters-stop w = working_stop (λ p. character_atom v ch >>= (λ q. give (p ∷ q ∷ []))) w

  module _ {d : State} {p : ℕ} (w₁ : Working (empty_atom v) m m₁ c (ok (store_of m₁ d) p)) {m₂ : Lent} where
    pub characters-stop_2 : {k : ℕ} → Working (character_atom v ch) m₁ m₂ d (stop k) → Working (character_atoms v ch) m m₂ c (stop k)
    unfolding character_atoms
    characters-stop_2 w₂ = working_then (λ p. character_atom v ch >>= (λ q. give (p ∷ q ∷ []))) d p (grows-empty v) w₁ (working_stop (λ q. give (p ∷ q ∷ [])) w₂)

    pub characters-done : (d₂ : State) {q : ℕ} → Working (character_atom v ch) m₁ m₂ d (ok (store_of m₂ d₂) q) → (l : List ℕ) → 2 ≤ length l → Working (character_atoms v ch) m m₂ c (ok (store_of m₂ d₂) (take 2 (set (set l 0 p) 1 q)))
    unfolding character_atoms
    characters-done d₂ {q} w₂ l h =
        working_then (λ p. character_atom v ch >>= (λ q. give (p ∷ q ∷ []))) d p (grows-empty v) w₁
        (working_then (λ q. give (p ∷ q ∷ [])) d₂ q (grows-character v ch) w₂ (given (w₂.ready d₂ q refl) (two-put l p q h)))

module _ {m m₁ : Lent} {c : State} (p a b : ℕ) where
  pub prefixes_stop : {k : ℕ} → Working (prefix_atom a b) m m₁ c (stop k) → Working (prefix_atoms p a b) m m₁ c (stop k)
  unfolding prefix_atoms
  prefixes_stop w = working_stop (λ q. prefix_atom b a >>= (λ u. give (p ∷ q ∷ u ∷ []))) w

  module _ {d : State} {q : ℕ} (w₁ : Working (prefix_atom a b) m m₁ c (ok (store_of m₁ d) q)) {m₂ : Lent} where
    pub prefixes_stop_2 : {k : ℕ} → Working (prefix_atom b a) m₁ m₂ d (stop k) → Working (prefix_atoms p a b) m m₂ c (stop k)
    unfolding prefix_atoms
    prefixes_stop_2 w₂ = working_then (λ q. prefix_atom b a >>= (λ u. give (p ∷ q ∷ u ∷ []))) d q (grows_prefix a b) w₁ (working_stop (λ u. give (p ∷ q ∷ u ∷ [])) w₂)

    pub prefixes_done : (d₂ : State) {u : ℕ} → Working (prefix_atom b a) m₁ m₂ d (ok (store_of m₂ d₂) u) → (l : List ℕ) → 3 ≤ length l → Working (prefix_atoms p a b) m m₂ c (ok (store_of m₂ d₂) (take 3 (set (set (set l 0 p) 1 q) 2 u)))
    unfolding prefix_atoms
    prefixes_done d₂ {u} w₂ l h =
        working_then (λ q. prefix_atom b a >>= (λ u. give (p ∷ q ∷ u ∷ []))) d q (grows_prefix a b) w₁
        (working_then (λ u. give (p ∷ q ∷ u ∷ [])) d₂ u (grows_prefix b a) w₂ (given (w₂.ready d₂ u refl) (three-put l p q u h)))

module _ {m m₁ : Lent} {c : State} (a b : ℕ) where
  pub heads-stop : {k : ℕ} → Working (lengths_atom a b) m m₁ c (stop k) → Working (head_atoms a b) m m₁ c (stop k)
  unfolding head_atoms
  heads-stop w = working_stop (λ p. prefix_atoms p a b) w

  pub heads_done : {d : State} {p : ℕ} {m₂ : Lent} {o : Out (List ℕ)} → Working (lengths_atom a b) m m₁ c (ok (store_of m₁ d) p) → Working (prefix_atoms p a b) m₁ m₂ d o → Working (head_atoms a b) m m₂ c o
  unfolding head_atoms
  heads_done {d} {p} w₁ w₂ = working_then (λ p. prefix_atoms p a b) d p (grows-lengths a b) w₁ w₂

-- THE SPLITS: their atoms, and what is done with them

assoc : {A B C : Type 0} (o : Out A) (f : A → Work B) (g : B → Work C) → and_then g (and_then f o) ≡ and_then (λ a. f a >>= g) o
assoc (ok s a) f g = refl
assoc (stop n) f g = refl

prefix_seq : {B : Type 0} (v h : ℕ) (k : ℕ → Work B) (s : Store) → and_then k (prefix_atom v h s) ≡ and_then (λ z. make_concat (h ∷ z ∷ []) >>= (λ t. make_equation v t >>= k)) (fresh_variable s)
unfolding prefix_atom
prefix_seq {B} v h k s = go (fresh_variable s)
  where
    go : (o : Out ℕ) → and_then k (and_then (λ z. make_concat (h ∷ z ∷ []) >>= make_equation v) o) ≡ and_then (λ z. make_concat (h ∷ z ∷ []) >>= (λ t. make_equation v t >>= k)) o
    go (ok s₁ z) = assoc (make_concat (h ∷ z ∷ []) s₁) (make_equation v) k
    go (stop n) = refl

module _ (k : List ℕ → Tried) (v c : ℕ) where
  abbrev last_of : ℕ → ℕ → Tried
  last_of p q = k (p ∷ q ∷ [])

  abbrev tail_of : ℕ → ℕ → Tried
  tail_of p h = fresh_variable >>= (λ z. make_concat (h ∷ z ∷ []) >>= (λ t. make_equation v t >>= last_of p))

  character_tail : (p : ℕ) (o : Out ℕ) → and_then k (and_then (λ q. give (p ∷ q ∷ [])) (and_then (prefix_atom v) o)) ≡ and_then (tail_of p) o
  character_tail p (ok s h) = assoc (prefix_atom v h s) (λ q. give (p ∷ q ∷ [])) k ∙ prefix_seq v h (last_of p) s
  character_tail p (stop n) = refl

  character-rest : (o : Out ℕ) → and_then k (and_then (λ p. character_atom v c >>= (λ q. give (p ∷ q ∷ []))) o) ≡ and_then (λ p. make_constant (c ∷ []) >>= tail_of p) o
  unfolding character_atom
  character-rest (ok s p) = character_tail p (make_constant (c ∷ []) s)
  character-rest (stop n) = refl

  character-whole : (o : Out ℕ) → and_then k (and_then (λ p. character_atom v c >>= (λ q. give (p ∷ q ∷ []))) (and_then (make_equation v) o)) ≡ and_then (λ e. make_equation v e >>= (λ p. make_constant (c ∷ []) >>= tail_of p)) o
  character-whole (ok s e) = character-rest (make_equation v e s)
  character-whole (stop n) = refl

  pub characters-then : (s : Store) → (character_atoms v c >>= k) s ≡ character_then v c k s
  unfolding character_atoms empty_atom
  characters-then s = character-whole (make_constant [] s)

module _ (k : List ℕ → Tried) (a b : ℕ) where
  abbrev third_of : ℕ → ℕ → ℕ → Tried
  third_of p q u = k (p ∷ q ∷ u ∷ [])

  abbrev second_of : ℕ → ℕ → Tried
  second_of p q = fresh_variable >>= (λ z. make_concat (a ∷ z ∷ []) >>= (λ t. make_equation b t >>= third_of p q))

  abbrev first_of : ℕ → Tried
  first_of p = fresh_variable >>= (λ z. make_concat (b ∷ z ∷ []) >>= (λ t. make_equation a t >>= second_of p))

  heads-second : (p : ℕ) (o : Out ℕ) → and_then k (and_then (λ q. prefix_atom b a >>= (λ u. give (p ∷ q ∷ u ∷ []))) o) ≡ and_then (second_of p) o
  heads-second p (ok s q) = assoc (prefix_atom b a s) (λ u. give (p ∷ q ∷ u ∷ [])) k ∙ prefix_seq b a (third_of p q) s
  heads-second p (stop n) = refl

  heads-first : (o : Out ℕ) → and_then k (and_then (λ p. prefix_atoms p a b) o) ≡ and_then first_of o
  unfolding prefix_atoms
  heads-first (ok s p) = heads-second p (prefix_atom a b s) ∙ prefix_seq a b (second_of p) s
  heads-first (stop n) = refl

  heads-lengths : (la : ℕ) (o : Out ℕ) → and_then k (and_then (λ p. prefix_atoms p a b) (and_then (make_equation la) o)) ≡ and_then (λ lb. make_equation la lb >>= first_of) o
  heads-lengths la (ok s lb) = heads-first (make_equation la lb s)
  heads-lengths la (stop n) = refl

  heads-whole : (o : Out ℕ) → and_then k (and_then (λ p. prefix_atoms p a b) (and_then (λ la. make_length b >>= make_equation la) o)) ≡ and_then (λ la. make_length b >>= (λ lb. make_equation la lb >>= first_of)) o
  heads-whole (ok s la) = heads-lengths la (make_length b s)
  heads-whole (stop n) = refl

  pub heads_then_lem : (s : Store) → (head_atoms a b >>= k) s ≡ heads_then a b k s
  unfolding head_atoms lengths_atom
  heads_then_lem s = heads-whole (make_length a s)
