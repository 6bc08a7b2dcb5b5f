-- Document 01, 'Program `labelstep`': the printed line of each answer.
use Rattle.std.specs.Prelude.{◌≡◌, Bool, true, false, List, [], ◌∷◌, ◌++◌, ℕ, suc, ◌≤◌, length, take, eqb, ℤ, pos, negsuc, if◌then◌else◌}
use Rattle.records.specs.Lists.{concat_map}
use Rattle.records.specs.Make.{decimal_by}

-- a number below 2^64 has at most twenty digits
abbrev pub decimal : ℕ → List ℕ
decimal x = decimal_by 20 x

-- a number of a line stands after a space
unfoldable pub number_text : ℕ → List ℕ
number_text x = 32 ∷ decimal x

-- a guard has a minus sign where it is below 0
unfoldable pub guard_text : ℤ → List ℕ
guard_text (pos n) = 32 ∷ decimal n
guard_text (negsuc n) = 32 ∷ 45 ∷ decimal (suc n)

-- whether a guard is below 0
abbrev pub is_below : ℤ → Bool
is_below (pos n) = false
is_below (negsuc n) = true

-- '`a` asserted or `i` interface'
abbrev pub reason_letter : ℕ → ℕ
reason_letter k = if eqb k 1 then 97 else 105

unfoldable pub reason_text : ℕ × ℕ → List ℕ
reason_text r = 32 ∷ reason_letter r.0 ∷ decimal r.1

-- 'count and reasons'
unfoldable pub reasons_text : List (ℕ × ℕ) → List ℕ
reasons_text rs = number_text (length rs) ++ concat_map reason_text rs

-- 'split with atom count, atoms'
unfoldable pub atoms_text : List ℕ → List ℕ
atoms_text l = number_text (length l) ++ concat_map number_text l

-- what a line of input is answered by, where it is answered: the step's answers with their reasons; a refusal; `bad` and the
-- line's number
pub data Answer : Type 0 where
  done : Answer
  saturated : List (ℕ × ℕ) → Answer
  conflict : List (ℕ × ℕ) → Answer
  propagate : ℕ → ℕ → ℕ → List (ℕ × ℕ) → Answer
  split : List ℕ → ℤ → List (ℕ × ℕ) → Answer
  unexpanded : Answer
  refused : ℕ → Answer
  bad : ℕ → Answer

-- the words, by a number for each answer
abbrev pub answer_name : ℕ → List ℕ
answer_name k = elim (eqb k 0) [
  | true ↦ 100 ∷ 111 ∷ 110 ∷ 101 ∷ []
  | false ↦ elim (eqb k 1) [
    | true ↦ 115 ∷ 97 ∷ 116 ∷ 117 ∷ 114 ∷ 97 ∷ 116 ∷ 101 ∷ 100 ∷ []
    | false ↦ elim (eqb k 2) [
      | true ↦ 99 ∷ 111 ∷ 110 ∷ 102 ∷ 108 ∷ 105 ∷ 99 ∷ 116 ∷ []
      | false ↦ elim (eqb k 3) [
        | true ↦ 112 ∷ 114 ∷ 111 ∷ 112 ∷ 97 ∷ 103 ∷ 97 ∷ 116 ∷ 101 ∷ []
        | false ↦ elim (eqb k 4) [
          | true ↦ 115 ∷ 112 ∷ 108 ∷ 105 ∷ 116 ∷ []
          | false ↦ elim (eqb k 5) [
            | true ↦ 117 ∷ 110 ∷ 101 ∷ 120 ∷ 112 ∷ 97 ∷ 110 ∷ 100 ∷ 101 ∷ 100 ∷ []
            | false ↦ elim (eqb k 6) [
              | true ↦ 114 ∷ 101 ∷ 102 ∷ 117 ∷ 115 ∷ 101 ∷ 100 ∷ []
              | false ↦ 98 ∷ 97 ∷ 100 ∷ []
            ]
          ]
        ]
      ]
    ]
  ]
]

-- what follows the word
unfoldable pub rest : Answer → List ℕ
rest done = []
rest (saturated rs) = reasons_text rs
rest (conflict rs) = reasons_text rs
rest (propagate v w f rs) = number_text v ++ number_text w ++ number_text f ++ reasons_text rs
rest (split l g rs) = atoms_text l ++ guard_text g ++ reasons_text rs
rest unexpanded = []
rest (refused k) = number_text k
rest (bad n) = number_text n

abbrev pub name_number : Answer → ℕ
name_number done = 0
name_number (saturated rs) = 1
name_number (conflict rs) = 2
name_number (propagate v w f rs) = 3
name_number (split l g rs) = 4
name_number unexpanded = 5
name_number (refused k) = 6
name_number (bad n) = 7

-- a line, with its end
unfoldable pub line : Answer → List ℕ
line a = answer_name (name_number a) ++ rest a ++ (10 ∷ [])

-- w is the first r bytes of a buffer
pub record Piece (l w : List ℕ) (r : ℕ) : Type 0 where
  pub text : take r l ≡ w
  pub within : r ≤ length l
  pub whole : r ≡ length (take r l)
