-- What the exported calls of joining, setting a mark and going back promise (document 02, Note 1).
use Rattle.std.specs.Prelude.{◌≡◌, Bool, true, false, List, [], ℕ, zero, suc, length, get_or, take, drop, leb, ◌∷◌, ◌-◌, ◌≤◌, Result, Ok, Err}
use denote.Triple.Both.{Both}
use Rattle.records.specs.declared.State.{State}
use Rattle.records.specs.View.{Lent, Slice}
use Rattle.classes.specs.declared.Standing.{Standing}
use Rattle.records.specs.declared.refusal.Refusal.{Refusal}
use Rattle.records.specs.declared.refusal.Refusal.TheVariants as refusal
use Rattle.classes.specs.Calls.{go_back, Tracks}
use Rattle.capi.specs.Interface.{state_of, Beyond, roomy}

-- the state's words 6 and 7: how many marks stand, and how many joins are recorded since the first of them
abbrev pub standing_of : List ℕ → Standing
standing_of w = record { marks = get_or w 6 0; joins = get_or w 7 0 }

-- how many words a state must have that counts marks and joins
abbrev pub marked_room : ℕ
marked_room = 8

-- v is w but for its words from place i up to place j
pub record Inside (i j : ℕ) (w v : List ℕ) : Type 0 where
  pub length_is : length v ≡ length w
  pub first : take i v ≡ take i w
  pub rest : drop j v ≡ drop j w

-- the refusal of a number from 1 to 12
abbrev pub refusal_of : ℕ → Refusal
refusal_of k =
    get_or
    (refusal.Sizes ∷ refusal.Records ∷ refusal.Classes ∷ refusal.Congruences ∷ refusal.Argument ∷ refusal.List ∷ refusal.Reasons ∷ refusal.Room ∷ refusal.Names ∷ refusal.Mark ∷ refusal.Form ∷ refusal.Index ∷ [])
    (k - 1) refusal.Sizes

-- what the caller reads off the result k: for 0 the number n, and the counts in the state's words; else the refusal of that number
abbrev pub read_as : ℕ → ℕ → List ℕ → Result (ℕ × Standing) Refusal
read_as zero n w = Ok (n, standing_of w)
read_as (suc k) n w = Err (refusal_of (suc k))

-- What a call on the words lent for marks promises
abbrev pub Promise : Type 1
Promise = Lent → Lent → List ℕ → List ℕ → State → Standing → Result (ℕ × Standing) Refusal → Type 0

-- The result is 0 or a refusal's number. Where state and answer have their eight words (`fit`) the call's promise P holds of what is read
-- off, and the refusal is 1 where they have not. On success the state is written from word i up to word j and the answer in word 0, no other
-- word of either; 'Refusals added from here on write nothing': after a refusal every slice is as it was.
pub record ExportedMarks (P : Promise) (i j : ℕ) (fit : Bool) (m m' : Lent) (l l' w w' a a' : List ℕ) (n k : ℕ) : Type 0 where
  pub is : fit ≡ true → P m m' l l' (state_of w) (standing_of w) (read_as k n w')
  pub short : fit ≡ false → k ≡ 1
  pub known : k ≤ 12
  pub state : Inside i j w w'
  pub answer : Beyond 1 a a'
  pub store_idle : (k ≡ 0 → ⊥) → m' ≡ m
  pub marks_idle : (k ≡ 0 → ⊥) → l' ≡ l
  pub state_idle : (k ≡ 0 → ⊥) → w' ≡ w
  pub answer_idle : (k ≡ 0 → ⊥) → a' ≡ a

-- THE WORDS OF CONTRACTS, slices by their names: a call that answers a number in word 0, and going back, which answers none
abbrev pub ExportsMarks : Promise → ℕ → ℕ → Both Lent Lent → Slice → Slice → Slice → ℕ → Type 0
ExportsMarks P i j x marks state answer k =
    ExportedMarks P i j (roomy marked_room state.entry.now answer.entry.now) x.entry x.exit marks.entry.now marks.exit.now state.entry.now state.exit.now
    answer.entry.now answer.exit.now (get_or answer.exit.now 0 0) k

abbrev pub ExportsBack : ℕ → Both Lent Lent → Slice → Slice → ℕ → Type 0
ExportsBack mark x marks state k =
    ExportedMarks (Tracks (go_back mark)) 6 8 (leb marked_room (length state.entry.now)) x.entry x.exit marks.entry.now marks.exit.now state.entry.now state.exit.now [] [] mark k
