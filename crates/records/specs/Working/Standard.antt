-- Document 02, Note 2: constants joined in the order of the standard's own text. Each definition is about words and the lent characters alone.
use Rattle.std.specs.Prelude.{◌≡◌, List, [], ◌∷◌, ◌++◌, map, ℕ, ◌+◌, take}
use Rattle.records.specs.View.{span, text_at, chars_view}

-- two at a time: the word held and the next part are joined, and that is the word held from there on
unfoldable pub joins_on : List ℕ → List (List ℕ) → List ℕ
joins_on held [] = held
joins_on held (next ∷ parts) = joins_on (held ++ next) parts

-- SMT-LIB, theory of Unicode strings: `(str.++ String String String :left-assoc)`. So `(str.++ a b c)` is `(str.++ (str.++ a b) c)`, and
-- the join of a list of words goes from the left; one part is itself, and no part is ""
unfoldable pub standard_join : List (List ℕ) → List ℕ
standard_join [] = []
standard_join (part ∷ parts) = joins_on part parts

-- 'it holds the standard's join of the parts': n characters from place p on are the join of the texts of a list of terms
abbrev pub HoldsJoin : List ℕ → List ℕ → List ℕ → ℕ → ℕ → Type 0
HoldsJoin l h ts p n = span h p n ≡ standard_join (map (text_at l h) ts)

-- part i of a list has been added: the word held from place p on is the join of the parts up to there, and nothing below p has changed
pub record PartAdded (l h h' ts : List ℕ) (p i n : ℕ) : Type 0 where
  pub holds : HoldsJoin l h' (take (i + 1) ts) p n
  pub kept : chars_view h' p ≡ chars_view h p
