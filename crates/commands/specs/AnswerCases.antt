-- Document 01's printed lines and others, by computing.
use Rattle.std.specs.Prelude.{◌≡◌, refl, [], ◌∷◌, pos, negsuc}
use Rattle.records.specs.Lists.{concat_map}
use Rattle.records.specs.Make.{decimal_by}
use Rattle.commands.specs.Answers.{number_text, guard_text, reason_text, reasons_text, atoms_text, done, saturated, conflict, propagate, split, unexpanded, refused, bad, rest, line}

line_1 : line (conflict []) ≡ (99 ∷ 111 ∷ 110 ∷ 102 ∷ 108 ∷ 105 ∷ 99 ∷ 116 ∷ 32 ∷ 48 ∷ 10 ∷ [])
unfolding concat_map decimal_by number_text guard_text reason_text reasons_text atoms_text rest line
line_1 = refl

line_2 : line (conflict ((1, 3) ∷ [])) ≡ (99 ∷ 111 ∷ 110 ∷ 102 ∷ 108 ∷ 105 ∷ 99 ∷ 116 ∷ 32 ∷ 49 ∷ 32 ∷ 97 ∷ 51 ∷ 10 ∷ [])
unfolding concat_map decimal_by number_text guard_text reason_text reasons_text atoms_text rest line
line_2 = refl

line_3 : line (propagate 1 4 0 []) ≡ (112 ∷ 114 ∷ 111 ∷ 112 ∷ 97 ∷ 103 ∷ 97 ∷ 116 ∷ 101 ∷ 32 ∷ 49 ∷ 32 ∷ 52 ∷ 32 ∷ 48 ∷ 32 ∷ 48 ∷ 10 ∷ [])
unfolding concat_map decimal_by number_text guard_text reason_text reasons_text atoms_text rest line
line_3 = refl

line_4 : line (done) ≡ (100 ∷ 111 ∷ 110 ∷ 101 ∷ 10 ∷ [])
unfolding concat_map decimal_by number_text guard_text reason_text reasons_text atoms_text rest line
line_4 = refl

line_5 : line (unexpanded) ≡ (117 ∷ 110 ∷ 101 ∷ 120 ∷ 112 ∷ 97 ∷ 110 ∷ 100 ∷ 101 ∷ 100 ∷ 10 ∷ [])
unfolding concat_map decimal_by number_text guard_text reason_text reasons_text atoms_text rest line
line_5 = refl

line_6 : line (saturated ((1, 7) ∷ (2, 2147483647) ∷ [])) ≡ (115 ∷ 97 ∷ 116 ∷ 117 ∷ 114 ∷ 97 ∷ 116 ∷ 101 ∷ 100 ∷ 32 ∷ 50 ∷ 32 ∷ 97 ∷ 55 ∷ 32 ∷ 105 ∷ 50 ∷ 49 ∷ 52 ∷ 55 ∷ 52 ∷ 56 ∷ 51 ∷ 54 ∷ 52 ∷ 55 ∷ 10 ∷ [])
unfolding concat_map decimal_by number_text guard_text reason_text reasons_text atoms_text rest line
line_6 = refl

line_7 : line (split (5 ∷ 12 ∷ []) (negsuc 8) []) ≡ (115 ∷ 112 ∷ 108 ∷ 105 ∷ 116 ∷ 32 ∷ 50 ∷ 32 ∷ 53 ∷ 32 ∷ 49 ∷ 50 ∷ 32 ∷ 45 ∷ 57 ∷ 32 ∷ 48 ∷ 10 ∷ [])
unfolding concat_map decimal_by number_text guard_text reason_text reasons_text atoms_text rest line
line_7 = refl

line_8 : line (split (5 ∷ 6 ∷ 7 ∷ []) (pos 10) ((1, 0) ∷ [])) ≡ (115 ∷ 112 ∷ 108 ∷ 105 ∷ 116 ∷ 32 ∷ 51 ∷ 32 ∷ 53 ∷ 32 ∷ 54 ∷ 32 ∷ 55 ∷ 32 ∷ 49 ∷ 48 ∷ 32 ∷ 49 ∷ 32 ∷ 97 ∷ 48 ∷ 10 ∷ [])
unfolding concat_map decimal_by number_text guard_text reason_text reasons_text atoms_text rest line
line_8 = refl

line_9 : line (refused 8) ≡ (114 ∷ 101 ∷ 102 ∷ 117 ∷ 115 ∷ 101 ∷ 100 ∷ 32 ∷ 56 ∷ 10 ∷ [])
unfolding concat_map decimal_by number_text guard_text reason_text reasons_text atoms_text rest line
line_9 = refl

line_10 : line (bad 18446744073709551615) ≡ (98 ∷ 97 ∷ 100 ∷ 32 ∷ 49 ∷ 56 ∷ 52 ∷ 52 ∷ 54 ∷ 55 ∷ 52 ∷ 52 ∷ 48 ∷ 55 ∷ 51 ∷ 55 ∷ 48 ∷ 57 ∷ 53 ∷ 53 ∷ 49 ∷ 54 ∷ 49 ∷ 53 ∷ 10 ∷ [])
unfolding concat_map decimal_by number_text guard_text reason_text reasons_text atoms_text rest line
line_10 = refl
