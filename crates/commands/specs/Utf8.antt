-- 'Text and names are UTF-8': The Unicode Standard, section 3.9 (RFC 3629, section 3).
use Rattle.std.specs.Prelude.{Bool, true, false, ◌&&◌, ◌||◌, List, [], ◌∷◌, ℕ, zero, suc, ◌+◌, ◌-◌, ◌*◌, length, get_or, drop, ltb, leb, if◌then◌else◌}
use Rattle.std.proofs.Math.Option.{Option, none, some}
use Rattle.records.specs.Rules.{is_char}
use Rattle.commands.specs.Texts.{onto}

-- a byte that goes on with a character: 80 to BF, six bits of its number
unfoldable pub is_next : ℕ → Bool
is_next b = leb 0x80 b && ltb b 0xC0

-- x followed by six bits more
abbrev pub six_more : ℕ → ℕ → ℕ
six_more x b = 64 * x + (b - 0x80)

-- a character that a text in UTF-8 can have: one of the store's (none from 30000 on) and no surrogate, D800 to DFFF, which UTF-8 has no form for
unfoldable pub is_scalar : ℕ → Bool
is_scalar x = is_char x && (ltb x 0xD800 || leb 0xE000 x)

-- a character of k bytes with number x: no shorter form has room for it, and a text can have it
unfoldable pub shaped : ℕ → ℕ → Bool → ℕ → Option (ℕ × ℕ)
shaped k least nexts x = if nexts && leb least x && is_scalar x then some (k, x) else none

-- the character that starts with byte a, before bytes b, c and d: how many bytes it has, and its number
unfoldable pub char_by : ℕ → ℕ → ℕ → ℕ → Option (ℕ × ℕ)
char_by a b c d = elim (ltb a 0x80) [
  | true ↦ some (1, a)
  | false ↦ elim (ltb a 0xC0) [
    | true ↦ none
    | false ↦ elim (ltb a 0xE0) [
      | true ↦ shaped 2 0x80 (is_next b) (six_more (a - 0xC0) b)
      | false ↦ elim (ltb a 0xF0) [
        | true ↦ shaped 3 0x800 (is_next b && is_next c) (six_more (six_more (a - 0xE0) b) c)
        | false ↦ elim (ltb a 0xF8) [
          | true ↦ shaped 4 0x1_0000 (is_next b && is_next c && is_next d) (six_more (six_more (six_more (a - 0xF0) b) c) d)
          | false ↦ none
        ]
      ]
    ]
  ]
]

-- the character that a list of bytes starts with; past the end stands 0, which goes on with none
unfoldable pub char_of : List ℕ → Option (ℕ × ℕ)
char_of l = char_by (get_or l 0 0) (get_or l 1 0) (get_or l 2 0) (get_or l 3 0)

-- the characters of bytes, n at most
unfoldable pub decode_by : ℕ → List ℕ → Option (List ℕ)
decode_by zero l = some []
decode_by (suc n) [] = some []
decode_by (suc n) (a ∷ l) = elim (char_of (a ∷ l)) [ none ↦ none | some p ↦ onto p.1 (decode_by n (drop p.0 (a ∷ l))) ]

-- a character has a byte at least
unfoldable pub decode : List ℕ → Option (List ℕ)
decode l = decode_by (length l) l
