-- What an exported call does with the words that a C caller lends it.
use Rattle.std.specs.Prelude.{◌≡◌, Bool, ◌&&◌, List, [], ℕ, zero, suc, length, get_or, take, drop, leb, if◌then◌else◌}
use denote.Triple.Both.{Both}
use Rattle.records.specs.declared.State.{State}
use Rattle.records.specs.Lists.{Every}
use Rattle.records.specs.Store.{Out, ok, stop}
use Rattle.records.specs.View.{Lent, store_of}
use Rattle.records.specs.Store.{Store, Work}
use Rattle.records.specs.View.{Slice}
use Rattle.records.specs.Rules.{audit}
use Rattle.records.specs.Make.{EachOnce}
use Rattle.records.specs.Calls.{Public, call, writes_nothing, full_alone}
use Rattle.engine.specs.Explain.{explain, explain_arguments}
use Rattle.engine.specs.Meaning.{Explains, added_to, Labels}

-- the state's six words: the counts of terms, cells, characters, reasons and keys, and the name counter
abbrev pub state_of : List ℕ → State
state_of w = record { terms = get_or w 0 0; cells = get_or w 1 0; chars = get_or w 2 0; reasons = get_or w 3 0; keys = get_or w 4 0; names = get_or w 5 0 }

-- v is w but for its first n words
pub record Beyond (n : ℕ) (w v : List ℕ) : Type 0 where
  pub length_is : length v ≡ length w
  pub rest : drop n v ≡ drop n w

-- how many words a state and an answer must have
abbrev pub state_room : ℕ
state_room = 6

abbrev pub answer_room : ℕ
answer_room = 8

-- a state of n words or more, and an answer of eight or more
unfoldable pub roomy : ℕ → List ℕ → List ℕ → Bool
roomy n w a = leb n (length w) && leb answer_room (length a)

-- the audit's result, and 1 for a state under six words
unfoldable pub audited : List ℕ → Lent → ℕ
audited w m = if leb state_room (length w) then audit m (state_of w) else 1

module _ {A : Type 0} where
  -- 1 for a state or an answer that is too short
  abbrev pub over : Bool → Out A → Out A
  over fit o = if fit then o else stop 1

  -- what the caller reads off: 0, the counts in the state's words and a value; or the refusal's number
  abbrev pub told : ℕ → List ℕ → Lent → A → Out A
  told zero w m x = ok (store_of m (state_of w)) x
  told (suc k) w m x = stop (suc k)

  -- The call's outcome o is what the result k and the words left say, the value read off as x. On success six words of the state and n of
  -- the answer are written; after a refusal both are as they were.
  pub record Exported (o : Out A) (m m' : Lent) (w w' : List ℕ) (n : ℕ) (a a' : List ℕ) (x : A) (k : ℕ) : Type 0 where
    pub public : Public o m m' (state_of w) (told k w' m' x)
    pub state : Beyond state_room w w'
    pub answer : Beyond n a a'
    pub state_idle : (k ≡ 0 → ⊥) → w' ≡ w
    pub answer_idle : (k ≡ 0 → ⊥) → a' ≡ a

  -- A call whose answer has several cases: `words` gives the number and the values of each. On success they stand first in the answer.
  pub record Answered (o : Out A) (words : A → List ℕ) (m m' : Lent) (w w' a a' : List ℕ) (x : A) (k : ℕ) : Type 0 where
    pub is : Exported o m m' w w' (length (words x)) a a' x k
    pub says : k ≡ 0 → take (length (words x)) a' ≡ words x

  -- the same of a call that answers a list in a slice of its own, l at entry and l' at exit: 'Refusals 1 to 5 write nothing'
  pub record AnsweredList (o : Out A) (words : A → List ℕ) (m m' : Lent) (l l' w w' a a' : List ℕ) (x : A) (k : ℕ) : Type 0 where
    pub is : Answered o words m m' w w' a a' x k
    pub idle : (k ≡ 0 → ⊥) → writes_nothing k → l' ≡ l

-- THE WORDS OF CONTRACTS, slices by their names: an exported call that answers one number, and one that writes a list
abbrev pub ExportsNumber : (Store → Bool) → Work ℕ → Both Lent Lent → Slice → Slice → ℕ → Type 0
ExportsNumber fit work x state answer k =
    Exported (over (roomy state_room state.entry.now answer.entry.now) (call fit work x.entry (state_of state.entry.now))) x.entry x.exit
    state.entry.now state.exit.now 1 answer.entry.now answer.exit.now (get_or answer.exit.now 0 0) k

abbrev pub ExportsList : (Lent → Lent → List ℕ → List ℕ → List ℕ → List ℕ → List ℕ → List ℕ → ℕ → Type 0) → Both Lent Lent → Slice → Slice → Slice → ℕ → Type 0
ExportsList P x list state answer k =
    P x.entry x.exit list.entry.now list.exit.now state.entry.now state.exit.now answer.entry.now answer.exit.now k

-- explain told in words, and what it is worth: under the reasons at exit and the definitional merges the two terms have equal
-- words. The reasons at exit are those at entry and then reasons that the list lacked, each once. Every reason
-- added labels an edge of the store; once the arguments pass, refusal 7 alone is given
pub record ExportedExplain (a b : ℕ) (m m' : Lent) (w w' : List ℕ) (k : ℕ) : Type 0 where
  pub is : Exported (over (leb state_room (length w)) (call (explain_arguments a b) (explain a b) m (state_of w))) m m' w w' 0 [] [] tt k
  pub worth : k ≡ 0 → Explains (store_of m (state_of w)) (store_of m' (state_of w')) a b
  pub once : k ≡ 0 → EachOnce (store_of m (state_of w)).reasons (store_of m' (state_of w')).reasons
  pub edges : k ≡ 0 → Every (Labels (store_of m (state_of w))) (added_to (store_of m (state_of w)) (store_of m' (state_of w')))
  pub full : full_alone k
