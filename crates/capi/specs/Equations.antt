-- What the exported calls of word equations promise.
use Rattle.std.specs.Prelude.{◌≡◌, Bool, true, false, List, [], ◌∷◌, ℕ, zero, suc, ◌+◌, length, get_or, take, ℤ, eqb, leb}
use Rattle.std.specs.Int.{w32}
use Rattle.std.proofs.Common.{to_z, of_z}
use Rattle.records.specs.View.{Lent, store_of}
use Rattle.records.specs.Make.{EachOnce}
use Rattle.records.specs.Calls.{call, full_alone}
use Rattle.normalize.specs.Calls.{list_call}
use Rattle.sides.specs.Wordeq.{Answer, done, saturated, conflict, propagate, split, resolve, resolve_arguments, nf_explain, nf_arguments}
use Rattle.sides.specs.Meaning.{Sound, ExplainsEqual}
use Rattle.sides.specs.Repeated.{Repeated, Worked, Decides}
use Rattle.wordeq.specs.Calls.{equal_arguments, equal_lists}
use Rattle.capi.specs.Interface.{state_of, state_room, roomy, over, told, Exported, Answered, AnsweredList}

-- a flag's word
abbrev pub flag : Bool → ℕ
flag true = 1
flag false = 0

-- the case in word 0: 0 Done, 1 Saturated, 2 Conflict, 3 Propagate, 4 Split; of Propagate the variable, the word and the link flag in words 1
-- to 3; of Split the atom count, the negated guard as 32-bit two's complement and how many terms it made: 'The result carries the number'
abbrev pub answer_words : Answer → List ℕ
answer_words done = 0 ∷ []
answer_words saturated = 1 ∷ []
answer_words conflict = 2 ∷ []
answer_words (propagate v x f) = 3 ∷ v ∷ x ∷ flag f ∷ []
answer_words (split l g n) = 4 ∷ length l ∷ of_z w32 g ∷ n ∷ []

-- the answer of this case that the answer a and the list's slice l give
abbrev pub answer_by : ℕ → List ℕ → List ℕ → Answer
answer_by zero l a = done
answer_by (suc zero) l a = saturated
answer_by (suc (suc zero)) l a = conflict
answer_by (suc (suc (suc zero))) l a = propagate (get_or a 1 0) (get_or a 2 0) (eqb (get_or a 3 0) 1)
answer_by (suc (suc (suc (suc n)))) l a = split (take (get_or a 1 0) l) (to_z w32 (get_or a 2 0)) (get_or a 3 0)

abbrev pub answer_read : List ℕ → List ℕ → Answer
answer_read l a = answer_by (get_or a 0 0) l a

-- resolve_equation told in words, and what it is worth: demand 3. The reasons at exit are those at entry and then reasons that the
-- list lacked, each once. After a Split the state's count of terms has grown by word 3 of the answer: the number 'equals the growth of the
-- term count within wordeq'. One repeated field v is decided exactly
pub record ExportedResolve (l r : List ℕ) (g : ℤ) (m m' : Lent) (k k' w w' a a' : List ℕ) (n : ℕ) : Type 0 where
  pub is : AnsweredList (over (roomy state_room w a) (list_call k (resolve_arguments l r g) (resolve l r g) m (state_of w))) answer_words m m' k k' w w' a a' (answer_read k' a') n
  pub worth : n ≡ 0 → Sound (store_of m (state_of w)) (store_of m' (state_of w')) l r (answer_read k' a')
  pub once : n ≡ 0 → EachOnce (store_of m (state_of w)).reasons (store_of m' (state_of w')).reasons
  pub grows : n ≡ 0 → get_or a' 0 0 ≡ 4 → get_or w' 0 0 ≡ get_or a' 3 0 + get_or w 0 0
  pub decides : (v : ℕ) → Repeated (store_of m (state_of w)) v l r → Worked (told n w' m' (answer_read k' a')) → Decides (store_of m (state_of w)) l r (told n w' m' (answer_read k' a'))

-- nf_equal: 0 or 1 in word 0
abbrev pub flag_words : Bool → List ℕ
flag_words b = flag b ∷ []

abbrev pub flag_read : List ℕ → Bool
flag_read a = eqb (get_or a 0 0) 1

-- nf_equal told in words; the store is as it was
pub record ExportedEqual (l r : List ℕ) (m : Lent) (w a a' : List ℕ) (k : ℕ) : Type 0 where
  pub is : Answered (over (roomy state_room w a) (call (equal_arguments l r) (equal_lists l r) m (state_of w))) flag_words m m w w a a' (flag_read a') k

-- nf_equal_explain told in words, and what it is worth: under the reasons at exit and the definitional merges two lists that
-- nf_equal calls equal have equal words. The reasons at exit are those at entry and then reasons that the list lacked, each once.
-- Once the arguments pass, refusal 7 alone is given
pub record ExportedEqualExplain (l r : List ℕ) (m m' : Lent) (w w' : List ℕ) (k : ℕ) : Type 0 where
  pub is : Exported (over (leb state_room (length w)) (call (nf_arguments l r) (nf_explain l r) m (state_of w))) m m' w w' 0 [] [] tt k
  pub worth : k ≡ 0 → ExplainsEqual (store_of m (state_of w)) (store_of m' (state_of w')) l r
  pub once : k ≡ 0 → EachOnce (store_of m (state_of w)).reasons (store_of m' (state_of w')).reasons
  pub full : full_alone k
