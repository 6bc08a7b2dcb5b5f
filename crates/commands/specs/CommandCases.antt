-- Document 01's example lines and others, and what each asks for, by computing.
use Rattle.std.specs.Prelude.{◌≡◌, refl, [], ◌∷◌, pos, negsuc}
use Rattle.std.proofs.Math.Option.{none, some}
use Rattle.records.specs.Lists.{all}
use Rattle.records.specs.Rules.{is_char}
use Rattle.commands.specs.Texts.{with_first, parted, fields, is_digit, value_from, number_below, numbers, guard_of}
use Rattle.commands.specs.Utf8.{is_next, is_scalar, shaped, char_by, char_of, decode_by, decode}
use Rattle.commands.specs.Commands.{constant, variable, concatenation, equation, merge, known, resolve, text_after, by_letter, command}

line_1 : command (86 ∷ 32 ∷ 120 ∷ []) ≡ some (variable (120 ∷ []))
unfolding all is_char with_first parted fields is_digit value_from number_below numbers guard_of is_next is_scalar shaped char_by char_of decode_by decode text_after by_letter command
line_1 = refl

line_2 : command (67 ∷ 32 ∷ 97 ∷ []) ≡ some (constant (97 ∷ []))
unfolding all is_char with_first parted fields is_digit value_from number_below numbers guard_of is_next is_scalar shaped char_by char_of decode_by decode text_after by_letter command
line_2 = refl

line_3 : command (80 ∷ 32 ∷ 49 ∷ 32 ∷ 50 ∷ []) ≡ some (concatenation (1 ∷ 2 ∷ []))
unfolding all is_char with_first parted fields is_digit value_from number_below numbers guard_of is_next is_scalar shaped char_by char_of decode_by decode text_after by_letter command
line_3 = refl

line_4 : command (69 ∷ 32 ∷ 51 ∷ 32 ∷ 52 ∷ []) ≡ some (equation 3 4)
unfolding all is_char with_first parted fields is_digit value_from number_below numbers guard_of is_next is_scalar shaped char_by char_of decode_by decode text_after by_letter command
line_4 = refl

line_5 : command (75 ∷ 32 ∷ 49 ∷ 32 ∷ 50 ∷ 32 ∷ 51 ∷ 32 ∷ 52 ∷ []) ≡ some (known (1 ∷ 2 ∷ 3 ∷ 4 ∷ []))
unfolding all is_char with_first parted fields is_digit value_from number_below numbers guard_of is_next is_scalar shaped char_by char_of decode_by decode text_after by_letter command
line_5 = refl

line_6 : command (82 ∷ 32 ∷ 53 ∷ 32 ∷ 57 ∷ []) ≡ some (resolve 5 (pos 9))
unfolding all is_char with_first parted fields is_digit value_from number_below numbers guard_of is_next is_scalar shaped char_by char_of decode_by decode text_after by_letter command
line_6 = refl

line_7 : command (77 ∷ 32 ∷ 54 ∷ 32 ∷ 49 ∷ 32 ∷ 51 ∷ []) ≡ some (merge 6 1 3)
unfolding all is_char with_first parted fields is_digit value_from number_below numbers guard_of is_next is_scalar shaped char_by char_of decode_by decode text_after by_letter command
line_7 = refl

-- a text is the rest of the line, spaces and all; it may be empty, a letter alone has none

line_8 : command (67 ∷ 32 ∷ 97 ∷ 32 ∷ 98 ∷ 32 ∷ []) ≡ some (constant (97 ∷ 32 ∷ 98 ∷ 32 ∷ []))
unfolding all is_char with_first parted fields is_digit value_from number_below numbers guard_of is_next is_scalar shaped char_by char_of decode_by decode text_after by_letter command
line_8 = refl

line_9 : command (67 ∷ 32 ∷ []) ≡ some (constant [])
unfolding all is_char with_first parted fields is_digit value_from number_below numbers guard_of is_next is_scalar shaped char_by char_of decode_by decode text_after by_letter command
line_9 = refl

line_10 : command (67 ∷ []) ≡ none
unfolding all is_char with_first parted fields is_digit value_from number_below numbers guard_of is_next is_scalar shaped char_by char_of decode_by decode text_after by_letter command
line_10 = refl

line_11 : command (67 ∷ 97 ∷ []) ≡ none
unfolding all is_char with_first parted fields is_digit value_from number_below numbers guard_of is_next is_scalar shaped char_by char_of decode_by decode text_after by_letter command
line_11 = refl

-- a byte, two, three and four to a character: A, é, €, 🙂

line_12 : command (67 ∷ 32 ∷ 65 ∷ 195 ∷ 169 ∷ 226 ∷ 130 ∷ 172 ∷ 240 ∷ 159 ∷ 153 ∷ 130 ∷ []) ≡ some (constant (65 ∷ 233 ∷ 8364 ∷ 128578 ∷ []))
unfolding all is_char with_first parted fields is_digit value_from number_below numbers guard_of is_next is_scalar shaped char_by char_of decode_by decode text_after by_letter command
line_12 = refl

-- the characters before and after the surrogates, and the highest: in a text, in a name

line_13 : command (67 ∷ 32 ∷ 237 ∷ 159 ∷ 191 ∷ 238 ∷ 128 ∷ 128 ∷ 240 ∷ 175 ∷ 191 ∷ 191 ∷ []) ≡ some (constant (55295 ∷ 57344 ∷ 196607 ∷ []))
unfolding all is_char with_first parted fields is_digit value_from number_below numbers guard_of is_next is_scalar shaped char_by char_of decode_by decode text_after by_letter command
line_13 = refl

line_14 : command (86 ∷ 32 ∷ 237 ∷ 159 ∷ 191 ∷ 238 ∷ 128 ∷ 128 ∷ 240 ∷ 175 ∷ 191 ∷ 191 ∷ []) ≡ some (variable (55295 ∷ 57344 ∷ 196607 ∷ []))
unfolding all is_char with_first parted fields is_digit value_from number_below numbers guard_of is_next is_scalar shaped char_by char_of decode_by decode text_after by_letter command
line_14 = refl

-- no UTF-8: an overlong form, a surrogate, a number above 10FFFF, a byte that starts nothing, a character that is cut off

line_15 : command (67 ∷ 32 ∷ 192 ∷ 128 ∷ []) ≡ none
unfolding all is_char with_first parted fields is_digit value_from number_below numbers guard_of is_next is_scalar shaped char_by char_of decode_by decode text_after by_letter command
line_15 = refl

line_16 : command (67 ∷ 32 ∷ 237 ∷ 160 ∷ 128 ∷ []) ≡ none
unfolding all is_char with_first parted fields is_digit value_from number_below numbers guard_of is_next is_scalar shaped char_by char_of decode_by decode text_after by_letter command
line_16 = refl

line_17 : command (67 ∷ 32 ∷ 244 ∷ 144 ∷ 128 ∷ 128 ∷ []) ≡ none
unfolding all is_char with_first parted fields is_digit value_from number_below numbers guard_of is_next is_scalar shaped char_by char_of decode_by decode text_after by_letter command
line_17 = refl

line_18 : command (67 ∷ 32 ∷ 128 ∷ []) ≡ none
unfolding all is_char with_first parted fields is_digit value_from number_below numbers guard_of is_next is_scalar shaped char_by char_of decode_by decode text_after by_letter command
line_18 = refl

line_19 : command (67 ∷ 32 ∷ 226 ∷ 130 ∷ []) ≡ none
unfolding all is_char with_first parted fields is_digit value_from number_below numbers guard_of is_next is_scalar shaped char_by char_of decode_by decode text_after by_letter command
line_19 = refl

-- the last surrogate, and two as other programs write a character above FFFF; a surrogate in a name

line_20 : command (67 ∷ 32 ∷ 237 ∷ 191 ∷ 191 ∷ []) ≡ none
unfolding all is_char with_first parted fields is_digit value_from number_below numbers guard_of is_next is_scalar shaped char_by char_of decode_by decode text_after by_letter command
line_20 = refl

line_21 : command (67 ∷ 32 ∷ 237 ∷ 160 ∷ 189 ∷ 237 ∷ 185 ∷ 130 ∷ []) ≡ none
unfolding all is_char with_first parted fields is_digit value_from number_below numbers guard_of is_next is_scalar shaped char_by char_of decode_by decode text_after by_letter command
line_21 = refl

line_22 : command (86 ∷ 32 ∷ 237 ∷ 160 ∷ 128 ∷ []) ≡ none
unfolding all is_char with_first parted fields is_digit value_from number_below numbers guard_of is_next is_scalar shaped char_by char_of decode_by decode text_after by_letter command
line_22 = refl

-- a character of Unicode that the store has not: 30000, 10FFFF, in a text and in a name

line_23 : command (67 ∷ 32 ∷ 240 ∷ 176 ∷ 128 ∷ 128 ∷ []) ≡ none
unfolding all is_char with_first parted fields is_digit value_from number_below numbers guard_of is_next is_scalar shaped char_by char_of decode_by decode text_after by_letter command
line_23 = refl

line_24 : command (67 ∷ 32 ∷ 244 ∷ 143 ∷ 191 ∷ 191 ∷ []) ≡ none
unfolding all is_char with_first parted fields is_digit value_from number_below numbers guard_of is_next is_scalar shaped char_by char_of decode_by decode text_after by_letter command
line_24 = refl

line_25 : command (86 ∷ 32 ∷ 240 ∷ 176 ∷ 128 ∷ 128 ∷ []) ≡ none
unfolding all is_char with_first parted fields is_digit value_from number_below numbers guard_of is_next is_scalar shaped char_by char_of decode_by decode text_after by_letter command
line_25 = refl

-- numbers: leading zeros pass, what a u32 does not hold does not, nor a sign, two spaces, a space at the end or a carriage return

line_26 : command (75 ∷ []) ≡ some (known [])
unfolding all is_char with_first parted fields is_digit value_from number_below numbers guard_of is_next is_scalar shaped char_by char_of decode_by decode text_after by_letter command
line_26 = refl

line_27 : command (75 ∷ 32 ∷ 48 ∷ 48 ∷ 55 ∷ 32 ∷ 52 ∷ 50 ∷ 57 ∷ 52 ∷ 57 ∷ 54 ∷ 55 ∷ 50 ∷ 57 ∷ 53 ∷ []) ≡ some (known (7 ∷ 4294967295 ∷ []))
unfolding all is_char with_first parted fields is_digit value_from number_below numbers guard_of is_next is_scalar shaped char_by char_of decode_by decode text_after by_letter command
line_27 = refl

line_28 : command (75 ∷ 32 ∷ 52 ∷ 50 ∷ 57 ∷ 52 ∷ 57 ∷ 54 ∷ 55 ∷ 50 ∷ 57 ∷ 54 ∷ []) ≡ none
unfolding all is_char with_first parted fields is_digit value_from number_below numbers guard_of is_next is_scalar shaped char_by char_of decode_by decode text_after by_letter command
line_28 = refl

line_29 : command (75 ∷ 32 ∷ 43 ∷ 49 ∷ []) ≡ none
unfolding all is_char with_first parted fields is_digit value_from number_below numbers guard_of is_next is_scalar shaped char_by char_of decode_by decode text_after by_letter command
line_29 = refl

line_30 : command (75 ∷ 32 ∷ 32 ∷ 49 ∷ []) ≡ none
unfolding all is_char with_first parted fields is_digit value_from number_below numbers guard_of is_next is_scalar shaped char_by char_of decode_by decode text_after by_letter command
line_30 = refl

line_31 : command (75 ∷ 32 ∷ 49 ∷ 32 ∷ []) ≡ none
unfolding all is_char with_first parted fields is_digit value_from number_below numbers guard_of is_next is_scalar shaped char_by char_of decode_by decode text_after by_letter command
line_31 = refl

line_32 : command (75 ∷ 32 ∷ 49 ∷ 13 ∷ []) ≡ none
unfolding all is_char with_first parted fields is_digit value_from number_below numbers guard_of is_next is_scalar shaped char_by char_of decode_by decode text_after by_letter command
line_32 = refl

line_33 : command (69 ∷ 32 ∷ 49 ∷ []) ≡ none
unfolding all is_char with_first parted fields is_digit value_from number_below numbers guard_of is_next is_scalar shaped char_by char_of decode_by decode text_after by_letter command
line_33 = refl

line_34 : command (69 ∷ 32 ∷ 49 ∷ 32 ∷ 50 ∷ 32 ∷ 51 ∷ []) ≡ none
unfolding all is_char with_first parted fields is_digit value_from number_below numbers guard_of is_next is_scalar shaped char_by char_of decode_by decode text_after by_letter command
line_34 = refl

-- a guard is an i32

line_35 : command (82 ∷ 32 ∷ 53 ∷ 32 ∷ 45 ∷ 57 ∷ []) ≡ some (resolve 5 (negsuc 8))
unfolding all is_char with_first parted fields is_digit value_from number_below numbers guard_of is_next is_scalar shaped char_by char_of decode_by decode text_after by_letter command
line_35 = refl

line_36 : command (82 ∷ 32 ∷ 53 ∷ 32 ∷ 50 ∷ 49 ∷ 52 ∷ 55 ∷ 52 ∷ 56 ∷ 51 ∷ 54 ∷ 52 ∷ 55 ∷ []) ≡ some (resolve 5 (pos 2147483647))
unfolding all is_char with_first parted fields is_digit value_from number_below numbers guard_of is_next is_scalar shaped char_by char_of decode_by decode text_after by_letter command
line_36 = refl

line_37 : command (82 ∷ 32 ∷ 53 ∷ 32 ∷ 50 ∷ 49 ∷ 52 ∷ 55 ∷ 52 ∷ 56 ∷ 51 ∷ 54 ∷ 52 ∷ 56 ∷ []) ≡ none
unfolding all is_char with_first parted fields is_digit value_from number_below numbers guard_of is_next is_scalar shaped char_by char_of decode_by decode text_after by_letter command
line_37 = refl

line_38 : command (82 ∷ 32 ∷ 53 ∷ 32 ∷ 45 ∷ 50 ∷ 49 ∷ 52 ∷ 55 ∷ 52 ∷ 56 ∷ 51 ∷ 54 ∷ 52 ∷ 56 ∷ []) ≡ some (resolve 5 (negsuc 2147483647))
unfolding all is_char with_first parted fields is_digit value_from number_below numbers guard_of is_next is_scalar shaped char_by char_of decode_by decode text_after by_letter command
line_38 = refl

line_39 : command (82 ∷ 32 ∷ 53 ∷ 32 ∷ 45 ∷ 50 ∷ 49 ∷ 52 ∷ 55 ∷ 52 ∷ 56 ∷ 51 ∷ 54 ∷ 52 ∷ 57 ∷ []) ≡ none
unfolding all is_char with_first parted fields is_digit value_from number_below numbers guard_of is_next is_scalar shaped char_by char_of decode_by decode text_after by_letter command
line_39 = refl

line_40 : command (82 ∷ 32 ∷ 53 ∷ 32 ∷ 45 ∷ []) ≡ none
unfolding all is_char with_first parted fields is_digit value_from number_below numbers guard_of is_next is_scalar shaped char_by char_of decode_by decode text_after by_letter command
line_40 = refl

line_41 : command (82 ∷ 32 ∷ 53 ∷ []) ≡ none
unfolding all is_char with_first parted fields is_digit value_from number_below numbers guard_of is_next is_scalar shaped char_by char_of decode_by decode text_after by_letter command
line_41 = refl

-- a blank line, another letter

line_42 : command [] ≡ none
unfolding all is_char with_first parted fields is_digit value_from number_below numbers guard_of is_next is_scalar shaped char_by char_of decode_by decode text_after by_letter command
line_42 = refl

line_43 : command (88 ∷ 32 ∷ 49 ∷ []) ≡ none
unfolding all is_char with_first parted fields is_digit value_from number_below numbers guard_of is_next is_scalar shaped char_by char_of decode_by decode text_after by_letter command
line_43 = refl
