-- The ways of step 4 that make a term.
use Rattle.std.specs.Prelude.{if◌then◌else◌}
use mathlib.Core.Path.{◌≡◌, ap}
use mathlib.Core.Bool.{Bool, true, false, ◌&&◌}
use mathlib.Core.List.{List, [], ◌∷◌}
use Prim.Native.Nat.{ℕ}
use Rattle.records.specs.declared.State.{State}
use Rattle.records.specs.Lists.{all, concat_map}
use Rattle.records.specs.Store.{Store, Out, and_then, is_constant, is_variable, text}
use Rattle.records.specs.View.{Lent, store_of}
use Rattle.records.specs.Make.{make_constant}
use Rattle.records.specs.Working.Doing.{Working}
use Rattle.records.proofs.Lists.{all_every, every_map, concat_map-same}
use Rattle.sides.specs.Wordeq.{propagate, answer, fixed, letters_of, letters, assigns}
use Rattle.records.proofs.Doing.{working_is, working_answer}
use Rattle.records.proofs.Works.{one_store}

-- a side of constants: its constant characters are its characters
pub letters-fixed : (s : Store) (l : List ℕ) → fixed s l ≡ true → letters s l ≡ concat_map (text s) l
unfolding letters fixed letters_of
letters-fixed s l h = concat_map-same (letters_of s) (text s) (every_map (λ a e. ap (λ (b : Bool). if b then text s a else []) e) (all_every (is_constant s) l h))

pub fixed-all : (s : Store) (l : List ℕ) → fixed s l ≡ true → all (is_constant s) l ≡ true
unfolding fixed
fixed-all s l h = h

pub word_made : {m m₁ : Lent} {c : State} {o : Out ℕ} (l : List ℕ) → fixed (store_of m c) l ≡ true → Working (λ s. make_constant (concat_map (text s) l) s) m m₁ c o → Working (λ s. make_constant (letters s l) s) m m₁ c o
word_made {m} {c = c} l h w = working_is (ap (λ (k : List ℕ). make_constant k (store_of m c)) (letters-fixed (store_of m c) l h)) w

-- a lone variable against constants
pub assigns-made : {m m₁ : Lent} {c : State} {o : Out ℕ} (a : ℕ) (l : List ℕ) → is_variable (store_of m c) a && fixed (store_of m c) l ≡ true → Working (λ s. make_constant (letters s l) s) m m₁ c o
    → Working (assigns (a ∷ []) l) m m₁ c (and_then (λ t. answer (propagate a t false)) o)
unfolding assigns
assigns-made a l h w = working_is (rw h) (working_answer (λ t. answer (propagate a t false)) (λ t s s' x i. one_store i) w)
