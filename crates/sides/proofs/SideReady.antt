-- What the tests of two lists require follows from an audited store, and they say the same of the whole store: they read its terms and
-- characters alone.
use mathlib.Core.Path.{◌≡◌, refl, sym, ap, ◌∙◌}
use mathlib.Core.Bool.{Bool, ◌&&◌}
use mathlib.Core.List.{List, [], ◌∷◌}
use Prim.Native.Nat.{ℕ}
use native.Mathlib.Omega.{arith}
use lib.ListN.{length, get_or, length-append}
use lib.Dec.{ltb}
use Rattle.records.specs.declared.State.{State}
use Rattle.records.specs.Lists.{concat_map}
use Rattle.records.specs.View.{Lent, store_of, read_in, termed}
use Rattle.records.specs.Working.Audited.{Ready}
use Rattle.records.proofs.Lists.{table-length}
use Rattle.sides.specs.Wordeq.{fixed, letters_of, letters, is_full, short}
use Rattle.sides.specs.Working.Sides.{Texts, Spelled, which_fixed}
use Rattle.sides.specs.Working.Stripping.{Readable}
use Rattle.sides.proofs.Refines.SideLetters.{full-letters}
use Rattle.sides.proofs.Refines.SideWalk.{count_same}

pub ready_readable : {m : Lent} {c : State} → Ready m c → Readable m.terms m.chars c
ready_readable {m} {c} d = record { cells = m.cells; reasons = m.reasons; keys = m.keys; ready = d }

module _ (m : Lent) (c : State) where
  module _ (x : Ready m c) where
    chars-size : length (store_of m c).chars ≡ c.chars
    chars-size = table-length (λ i. get_or m.chars i 0) c.chars

    pub ready-read_in : Spelled m.terms m.chars c
    ready-read_in = record {
      texts = record {
        limited = x.sized.char_limited;
        constants = λ t e. let f = x.audited.recorded.constants t e in rw chars-size at f;
        variables = λ t e. let f = x.audited.recorded.variables t e in rw chars-size at f;
      };
      room = x.sized.char_room;
    }

  pub fixed-whole : (l : List ℕ) → fixed (termed m.terms c) l ≡ fixed (store_of m c) l
  unfolding fixed
  fixed-whole l = refl

  pub which_whole : (l r : List ℕ) → which_fixed (termed m.terms c) l r ≡ which_fixed (store_of m c) l r
  unfolding which_fixed fixed
  which_whole l r = refl

  pub letters-whole : (l : List ℕ) → letters (read_in m.terms m.chars c) l ≡ letters (store_of m c) l
  unfolding letters letters_of
  letters-whole l = refl

  full-read_in : (a : ℕ) → is_full (read_in m.terms m.chars c) a ≡ is_full (store_of m c) a
  unfolding is_full
  full-read_in a = refl

  -- how many letters there are does not depend on the characters
  module _ (x : Texts m.terms c) where
    pub full-whole : (a : ℕ) → is_full (termed m.terms c) a ≡ is_full (store_of m c) a
    full-whole a =
        full-letters (termed m.terms c) a ∙ ap (ltb 0) (sym (count_same m.terms m.chars c a x)) ∙ sym (full-letters (read_in m.terms m.chars c) a)
        ∙ full-read_in a

    count_all : (l : List ℕ) → length (letters (termed m.terms c) l) ≡ length (letters (read_in m.terms m.chars c) l)
    unfolding letters concat_map
    count_all [] = refl
    count_all (a ∷ l) =
        length-append (letters_of (termed m.terms c) a) (concat_map (letters_of (termed m.terms c)) l)
        ∙ (let e = count_same m.terms m.chars c a x in
        let f = count_all l in
        let g = length-append (letters_of (read_in m.terms m.chars c) a) (concat_map (letters_of (read_in m.terms m.chars c)) l) in omega arith)

    pub length_whole : (l : List ℕ) → length (letters (termed m.terms c) l) ≡ length (letters (store_of m c) l)
    length_whole l = count_all l ∙ ap length (letters-whole l)

    pub short-whole : (l r : List ℕ) → short (termed m.terms c) l r ≡ short (store_of m c) l r
    unfolding short
    short-whole l r =
        ap (λ (b : Bool). b && ltb (length (letters (termed m.terms c) l)) (length (letters (termed m.terms c) r))) (fixed-whole l)
        ∙ ap (λ (n : ℕ). fixed (store_of m c) l && ltb n (length (letters (termed m.terms c) r))) (length_whole l)
        ∙ ap (λ (n : ℕ). fixed (store_of m c) l && ltb (length (letters (store_of m c) l)) n) (length_whole r)
