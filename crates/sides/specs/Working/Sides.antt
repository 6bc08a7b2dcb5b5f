-- What the tests of two lists read: the terms and characters alone, and a place within a side's constant characters.
use Rattle.std.specs.Prelude.{◌≡◌, Bool, true, false, not, List, [], ◌∷◌, ℕ, ◌+◌, ◌≤◌, ◌<◌, length, take, drop, get_or, eqb, if◌then◌else◌}
use Rattle.records.specs.declared.State.{State}
use Rattle.records.specs.Lists.{any}
use Rattle.records.specs.Store.{Store, kind, term, is_constant}
use Rattle.records.specs.View.{char_limit, read_in, termed}
use Rattle.sides.specs.declared.letters.Cursor.{Cursor}
use Rattle.sides.specs.Wordeq.{fixed, letters_of, letters}

-- each text is within the characters counted
pub record Texts (l : List ℕ) (c : State) : Type 0 where
  pub limited : c.chars ≤ char_limit
  pub constants : (t : ℕ) → kind (termed l c) t ≡ 1 → (term (termed l c) t).first + (term (termed l c) t).second ≤ c.chars
  pub variables : (t : ℕ) → kind (termed l c) t ≡ 2 → (term (termed l c) t).first + (term (termed l c) t).second ≤ c.chars

-- and they are there: what the tests require
pub record Spelled (l h : List ℕ) (c : State) : Type 0 where
  pub texts : Texts l c
  pub room : c.chars ≤ length h

-- an atom's kind is k; where `is` is false, it is another
unfoldable pub of_kind : Store → ℕ → Bool → ℕ → Bool
of_kind s k is a = if eqb (kind s a) k then is else not is

-- the place of the first atom that p holds of; where there is none, the list's end
pub record First (p : ℕ → Bool) (l : List ℕ) (i : ℕ) : Type 0 where
  pub within : i ≤ length l
  pub before : any p (take i l) ≡ false
  pub at : i < length l → p (get_or l i 0) ≡ true

-- 'The constant side is picked from the two lists': 1 for the left one, where both are constant too, 2 for the right one, 0 for none
unfoldable pub which_fixed : Store → List ℕ → List ℕ → ℕ
which_fixed s l r = if fixed s l then 1 else (if fixed s r then 2 else 0)

unfoldable pub picked : ℕ → List ℕ → List ℕ → List ℕ
picked w l r = if eqb w 1 then l else (if eqb w 2 then r else [])

-- A PLACE IN THE CONSTANT CHARACTERS OF A SIDE

-- what is left of them from a character of an atom on
abbrev pub rest : Store → List ℕ → ℕ → ℕ → List ℕ
rest s l i j = drop j (letters s (drop i l))

-- the atom of a cursor has its character
pub record There (w : List ℕ) (c : State) (l : List ℕ) (k : Cursor) : Type 0 where
  pub there : k.atom < length l → k.place < length (letters_of (termed w c) (get_or l k.atom 0))

-- r is there and leaves what k leaves
pub record Settled (w : List ℕ) (c : State) (l : List ℕ) (k r : Cursor) : Type 0 where
  pub same : (h : List ℕ) → rest (read_in w h c) l r.atom r.place ≡ rest (read_in w h c) l k.atom k.place
  pub at : There w c l r

-- two words begin with one character
unfoldable pub heads_agree : List ℕ → List ℕ → Bool
heads_agree [] w = false
heads_agree (x ∷ v) [] = false
heads_agree (x ∷ v) (y ∷ w) = eqb x y

abbrev pub next : Cursor → Cursor
next k = record { atom = k.atom; place = k.place + 1 }

-- THE SIDE OVER THE WORD: what fills the place of an atom is the atom's own characters, or m characters of the word from v on

abbrev pub fill_count : Store → ℕ → ℕ → ℕ
fill_count s a m = if is_constant s a then length (letters_of s a) else m

abbrev pub fill_start : Store → ℕ → ℕ → Cursor → Cursor
fill_start s a i v = if is_constant s a then record { atom = i; place = 0 } else v

abbrev pub fill_source : Store → ℕ → List ℕ → List ℕ → List ℕ
fill_source s a side word = if is_constant s a then side else word

-- the word has m characters from v on
pub record Tiling (w h : List ℕ) (c : State) (word : List ℕ) (v : Cursor) (m : ℕ) : Type 0 where
  pub known : Spelled w h c
  pub fits : m ≤ length (rest (read_in w h c) word v.atom v.place)
