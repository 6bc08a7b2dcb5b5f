-- What an answer is worth: demand 3.
use Rattle.std.specs.Prelude.{◌≡◌, true, ℕ}
use mathlib.Core.List.{List, Memᴰ}
use Rattle.records.specs.Lists.{concat_map}
use Rattle.records.specs.Store.{Store, kind}
use Rattle.records.specs.Meaning.{Words, Reading, Holds, True}
use Rattle.sides.specs.Wordeq.{Answer, done, saturated, conflict, propagate, split, nf_equal}

-- words of the store at exit that agree on every variable of the store at entry, and under which some listed atom is true
pub record Chosen (s s' : Store) (w : Words) (atoms : List ℕ) : Type 0 where
  pub words : Words
  pub reading : Reading s' words
  pub agree : (t : ℕ) → kind s t ≡ 2 → words t ≡ w t
  pub atom : ℕ
  pub listed : Memᴰ atom atoms
  pub holds : True s' words atom

-- the variable is one of the store at entry and, where the sides have equal words, has the word of the term answered with it
pub record Propagates (s s' : Store) (L R : Words → List ℕ) (v x : ℕ) : Type 0 where
  pub variable : kind s v ≡ 2
  pub equal : (w : Words) → Reading s' w → Holds s s'.reasons w → L w ≡ R w → w v ≡ w x

-- 'whatever words the variables are given. Suppose only that the definitional merges and the reasons named in the answer hold for these
-- words': s is the store at entry, whose edges count, s' that at exit, whose reasons are named; L and R are the sides' words.
-- 'After Conflict the sides have different words. After Propagate, if the sides have equal words, the variable has the word of the term
-- answered with it. After Split, if the sides have equal words, the variables that the call added can be given words, all others
-- keeping theirs, that make a listed atom true.'
abbrev pub Worth : Store → Store → (Words → List ℕ) → (Words → List ℕ) → Answer → Type 0
Worth s s' L R done = Unit {0}
Worth s s' L R saturated = Unit {0}
Worth s s' L R conflict = (w : Words) → Reading s w → Holds s s'.reasons w → L w ≡ R w → ⊥
Worth s s' L R (propagate v x k) = Propagates s s' L R v x
Worth s s' L R (split atoms g n) = (w : Words) → Reading s w → Holds s s'.reasons w → L w ≡ R w → Chosen s s' w atoms

-- 'The two sides are the two lists'
abbrev pub Sound : Store → Store → List ℕ → List ℕ → Answer → Type 0
Sound s s' l r = Worth s s' (λ w. concat_map w l) (λ w. concat_map w r)

-- lists that `nf_equal` calls equal have equal words, for all words under which the definitional merges and the reasons at exit hold
abbrev pub ExplainsEqual : Store → Store → List ℕ → List ℕ → Type 0
ExplainsEqual s s' l r = nf_equal s l r ≡ true → (w : Words) → Reading s w → Holds s s'.reasons w → concat_map w l ≡ concat_map w r
