-- Room: the code's tests of a slice and a limit say what the definitions ask.
use mathlib.Core.Path.{◌≡◌, sym, ◌∙◌}
use mathlib.Core.Bool.{Bool, true, false}
use mathlib.Core.List.{List}
use Prim.Native.Nat.{ℕ, ◌+◌, ◌/◌, ◌≤◌, ◌<◌, min}
use native.Mathlib.Omega.{arith}
use lib.ListN.{length}
use lib.Dec.{ltb, leb}
use borrow.Author.Tests.{ltb-true, leb-true, le-leb, lt-leb}
use Rattle.records.specs.View.{term_limit, cell_limit, char_limit, term_words, cell_words, term_room, cell_room, char_room}

-- one term more
module _ (l : List ℕ) (n : ℕ) where
  pub term_limit_lem : ltb n (term_room l) ≡ true → n < term_limit
  term_limit_lem e = let k : n < term_room l = ltb-true n (term_room l) e in omega arith

  pub term_room_lem : ltb n (term_room l) ≡ true → term_words (n + 1) ≤ length l
  term_room_lem e = let k : n < term_room l = ltb-true n (term_room l) e in omega arith

  -- what a test that passed says
  pub fits-limit : (r : Bool) → r ≡ ltb n (term_room l) → r ≡ true → n < term_limit
  fits-limit r e h = term_limit_lem (sym e ∙ h)

  pub fits-words : (r : Bool) → r ≡ ltb n (term_room l) → r ≡ true → term_words (n + 1) ≤ length l
  fits-words r e h = term_room_lem (sym e ∙ h)

-- k cells more, where the n that are counted fit
module _ (l : List ℕ) (n k : ℕ) (room : cell_words n ≤ length l) where
  pub cells-limit : leb (n + k) (cell_room l) ≡ true → n + k ≤ cell_limit
  cells-limit e = let q : n + k ≤ cell_room l = leb-true (n + k) (cell_room l) e in omega arith

  pub cells-room : leb (n + k) (cell_room l) ≡ true → cell_words (n + k) ≤ length l
  cells-room e = let q : n + k ≤ cell_room l = leb-true (n + k) (cell_room l) e in omega arith

-- k characters more
module _ (l : List ℕ) (n k : ℕ) where
  pub chars_fit_lem : n + k ≤ char_limit → n + k ≤ length l → leb (n + k) (char_room l) ≡ true
  chars_fit_lem a b = le-leb (n + k) (char_room l) (omega arith)

  pub chars-limit : leb (n + k) (char_room l) ≡ true → n + k ≤ char_limit
  chars-limit e = let q : n + k ≤ char_room l = leb-true (n + k) (char_room l) e in omega arith

  pub chars-room : leb (n + k) (char_room l) ≡ true → n + k ≤ length l
  chars-room e = let q : n + k ≤ char_room l = leb-true (n + k) (char_room l) e in omega arith

  pub chars-over : char_limit < n + k → leb (n + k) (char_room l) ≡ false
  chars-over h = lt-leb (n + k) (char_room l) (omega arith)

-- one reason or key more, under its limit
module _ (l : List ℕ) (limit n : ℕ) where
  pub pair-limit : (r : Bool) → r ≡ ltb n (min limit (length l / 2)) → r ≡ true → n < limit
  pair-limit r e h = let k : n < min limit (length l / 2) = ltb-true n (min limit (length l / 2)) (sym e ∙ h) in omega arith

  pub pair-room : (r : Bool) → r ≡ ltb n (min limit (length l / 2)) → r ≡ true → n < length l / 2
  pair-room r e h = let k : n < min limit (length l / 2) = ltb-true n (min limit (length l / 2)) (sym e ∙ h) in omega arith
