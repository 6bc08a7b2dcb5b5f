-- The refusals of document 01's table, and of document 02's notes from 10 on, by name.
use Rattle.std.specs.Prelude.{ℕ, Result, Ok, Err}
use Rattle.records.specs.declared.refusal.Refusal.{Refusal}
use Rattle.records.specs.declared.refusal.Refusal.TheVariants.{Sizes, Records, Classes, Congruences, Argument, List, Reasons, Room, Names, Mark, Form, Index}

-- 'No.'
abbrev pub number : Refusal → ℕ
number Sizes = 1
number Records = 2
number Classes = 3
number Congruences = 4
number Argument = 5
number List = 6
number Reasons = 7
number Room = 8
number Names = 9
number Mark = 10
number Form = 11
number Index = 12

-- what a call gives in C: 0, or the refusal's number
abbrev pub verdict : {A : Type 0} → Result A Refusal → ℕ
verdict (Ok a) = 0
verdict (Err e) = number e
