-- A line to a command: what the functions that read it make of a list, of two fields, and of the line's letter.
use Rattle.std.specs.Prelude.{Option as RustOption, None}
use mathlib.Core.Path.{◌≡◌, refl, sym, ap, ◌∙◌}
use mathlib.Core.List.{List, [], ◌∷◌}
use mathlib.Core.Option.{Option, none, some}
use Prim.Native.Nat.{ℕ, suc, ◌+◌, ◌-◌, ◌<◌, ◌≤◌}
use native.Mathlib.Numerals.{add-one}
use native.Mathlib.Omega.{arith}
use lib.ListN.{length, take, drop, get_or}
use lib.IntN.{ℤ}
use mir.Syntax.{w32}
use mir.Val.{SFits, to_z, of_z}
use mir.Facts.{to_z-of_z}
use borrow.Author.Tests.{eq-eqb, ne_eqb, le-leb, lt-leb}
use Rattle.records.specs.Lists.{up_to}
use Rattle.commands.specs.Texts.{space, parted, fields, number_below, word_limit, guard_of}
use Rattle.commands.specs.Utf8.{decode}
use Rattle.commands.specs.Commands.{Command, resolve, line_limit, through, text_after, numbers_after, as_constant, as_variable, as_concatenation, as_known, as_equation, as_merge, as_resolve, resolve_by, by_letter, command}
use Rattle.commands.specs.Working.Readings.{Listed}
use Rattle.commands.proofs.Listings.{tail_is}
use Rattle.commands.proofs.Numbering.{field_is, last_field, next_field}

-- a text
pub text-none : (l m : List ℕ) → length l ≡ 0 → Listed (text_after l) None m
unfolding text_after
text-none [] m e = record { says = refl; fits = omega arith }
text-none (b ∷ l) m e = absurd (omega arith)

module _ (l m : List ℕ) (z : length l ≡ 0 → ⊥) where
  pub text_odd : (get_or l 0 0 ≡ 32 → ⊥) → Listed (text_after l) None m
  unfolding text_after
  text_odd e = record { says = sym (split l z e); fits = omega arith }
    where
      split : (v : List ℕ) → (length v ≡ 0 → ⊥) → (get_or v 0 0 ≡ 32 → ⊥) → text_after v ≡ none
      split [] q k = absurd (q refl)
      split (b ∷ v) q k = rw (ne_eqb b 32 k, text_after)

  pub text_is : (r : RustOption ℕ) → get_or l 0 0 ≡ 32 → Listed (decode (take (length l - 1) (drop 1 l))) r m → Listed (text_after l) r m
  unfolding text_after
  text_is r e f = record { says = f.says ∙ ap decode (tail_is l) ∙ split l z e; fits = f.fits }
    where
      split : (v : List ℕ) → (length v ≡ 0 → ⊥) → get_or v 0 0 ≡ 32 → decode (drop 1 v) ≡ text_after v
      split [] q k = absurd (q refl)
      split (b ∷ v) q k = rw (eq-eqb b 32 k, text_after)

-- a term and a guard
pub resolve-none : (l : List ℕ) → length l ≡ 0 → none ≡ through as_resolve (fields l)
unfolding fields
resolve-none [] e = refl
resolve-none (b ∷ l) e = absurd (omega arith)

module _ (l : List ℕ) (z : length l ≡ 0 → ⊥) where
  pub resolve_odd : (get_or l 0 0 ≡ 32 → ⊥) → none ≡ through as_resolve (fields l)
  unfolding fields
  resolve_odd e = sym (ap (through as_resolve) (split l z e))
    where
      split : (v : List ℕ) → (length v ≡ 0 → ⊥) → (get_or v 0 0 ≡ 32 → ⊥) → fields v ≡ none
      split [] q k = absurd (q refl)
      split (b ∷ v) q k = rw (ne_eqb b 32 k, fields)

  module _ (s : get_or l 0 0 ≡ 32) (e : ℕ) (p : e ≡ 1 + length (up_to space (drop 1 l))) where
    spaced : through as_resolve (fields l) ≡ as_resolve (parted (drop 1 l))
    unfolding fields
    spaced = ap (through as_resolve) (split l z s)
      where
        split : (v : List ℕ) → (length v ≡ 0 → ⊥) → get_or v 0 0 ≡ 32 → fields v ≡ some (parted (drop 1 v))
        split [] q k = absurd (q refl)
        split (b ∷ v) q k = rw (eq-eqb b 32 k, fields)

    pub resolve-one : length l ≤ e → none ≡ through as_resolve (fields l)
    resolve-one h = sym (spaced ∙ ap as_resolve (last_field l 1 e p h))

    module _ (h : e < length l) (f : ℕ) (q : f ≡ e + 1 + length (up_to space (drop (e + 1) l))) where
      twice : parted (drop 1 l) ≡ take (e - 1) (drop 1 l) ∷ parted (drop (e + 1) l)
      twice = rw (add-one e) (next_field l 1 e p h)

      pub resolve-more : f < length l → none ≡ through as_resolve (fields l)
      resolve-more k = sym (spaced ∙ ap as_resolve (twice
          ∙ ap (λ (ws : List (List ℕ)). take (e - 1) (drop 1 l) ∷ ws) (next_field l (e + 1) f q k))
          ∙ more (take (e - 1) (drop 1 l)) (take (f - (e + 1)) (drop (e + 1) l)) (drop (suc f) l))
        where
          more : (a b m : List ℕ) → as_resolve (a ∷ b ∷ parted m) ≡ none
          more a b m = rw (field_is m 0 (length (up_to space m)) (sym (native.Mathlib.Nat.zero-add (length (up_to space m)))))

      module _ (k : length l ≤ f) where
        both-fields : through as_resolve (fields l) ≡ resolve_by (number_below word_limit (take (e - 1) (drop 1 l))) (guard_of (take (f - (e + 1)) (drop (e + 1) l)))
        both-fields = spaced ∙ ap as_resolve (twice
            ∙ ap (λ (ws : List (List ℕ)). take (e - 1) (drop 1 l) ∷ ws) (last_field l (e + 1) f q k))

        pub resolve-bad : none ≡ number_below word_limit (take (e - 1) (drop 1 l)) → none ≡ through as_resolve (fields l)
        resolve-bad i = sym (both-fields ∙ ap (λ (o : Option ℕ). resolve_by o (guard_of (take (f - (e + 1)) (drop (e + 1) l)))) (sym i))

        module _ (t : ℕ) (i : some t ≡ number_below word_limit (take (e - 1) (drop 1 l))) (o : Option ℤ) (j : o ≡ guard_of (take (f - (e + 1)) (drop (e + 1) l))) where
          termed : through as_resolve (fields l) ≡ resolve_by (some t) o
          termed = both-fields
              ∙ ap (λ (o : Option ℕ). resolve_by o (guard_of (take (f - (e + 1)) (drop (e + 1) l)))) (sym i)
              ∙ ap (λ (o : Option ℤ). resolve_by (some t) o) (sym j)

          pub resolve-free : o ≡ none → none ≡ through as_resolve (fields l)
          resolve-free b = sym (termed ∙ ap (resolve_by (some t)) b)

          pub resolve-is : (g : ℤ) → o ≡ some g → SFits w32 g → some (resolve t (to_z w32 (of_z w32 g))) ≡ through as_resolve (fields l)
          resolve-is g b n = sym (termed ∙ ap (resolve_by (some t)) b ∙ ap (λ (z : ℤ). some (resolve t z)) (sym (to_z-of_z n)))

-- by the letter
module _ (k : ℕ) (l : List ℕ) (o : Option Command) where
  pub letter-constant : k ≡ 67 → o ≡ through as_constant (text_after l) → o ≡ by_letter k l
  unfolding by_letter
  letter-constant e p = p ∙ rw e

  pub letter-variable : k ≡ 86 → o ≡ through as_variable (text_after l) → o ≡ by_letter k l
  unfolding by_letter
  letter-variable e p = p ∙ rw e

  pub letter-concatenation : k ≡ 80 → o ≡ through as_concatenation (numbers_after l) → o ≡ by_letter k l
  unfolding by_letter
  letter-concatenation e p = p ∙ rw e

  pub letter-equation : k ≡ 69 → o ≡ through as_equation (numbers_after l) → o ≡ by_letter k l
  unfolding by_letter
  letter-equation e p = p ∙ rw e

  pub letter-merge : k ≡ 77 → o ≡ through as_merge (numbers_after l) → o ≡ by_letter k l
  unfolding by_letter
  letter-merge e p = p ∙ rw e

  pub letter-known : k ≡ 75 → o ≡ through as_known (numbers_after l) → o ≡ by_letter k l
  unfolding by_letter
  letter-known e p = p ∙ rw e

  pub letter-resolve : k ≡ 82 → o ≡ through as_resolve (fields l) → o ≡ by_letter k l
  unfolding by_letter
  letter-resolve e p = p ∙ rw e

pub other-letter : (k : ℕ) (l : List ℕ) → (k ≡ 67 → ⊥) → (k ≡ 86 → ⊥) → (k ≡ 80 → ⊥) → (k ≡ 69 → ⊥) → (k ≡ 77 → ⊥) → (k ≡ 75 → ⊥) → (k ≡ 82 → ⊥) → none ≡ by_letter k l
unfolding by_letter
other-letter k l a b c d e f g =
    rw (ne_eqb k 67 a, by_letter)
    (rw (ne_eqb k 86 b) (rw (ne_eqb k 80 c) (rw (ne_eqb k 69 d) (rw (ne_eqb k 77 e) (rw (ne_eqb k 75 f) (rw (ne_eqb k 82 g)))))))

-- the whole line
pub line-none : (l : List ℕ) → length l ≡ 0 → none ≡ command l
unfolding command
line-none [] e = refl
line-none (b ∷ l) e = absurd (omega arith)

pub line-long : (l : List ℕ) → line_limit < length l → none ≡ command l
unfolding command
line-long [] h = absurd (omega arith)
line-long (b ∷ l) h = rw (lt-leb (length (b ∷ l)) line_limit h, command)

pub line-is : (l : List ℕ) (o : Option Command) → (length l ≡ 0 → ⊥) → length l ≤ line_limit → o ≡ by_letter (get_or l 0 0) (take (length l - 1) (drop 1 l)) → o ≡ command l
unfolding command
line-is [] o z h e = absurd (z refl)
line-is (b ∷ l) o z h e = e ∙ ap (by_letter b) (tail_is (b ∷ l)) ∙ rw (le-leb (length (b ∷ l)) line_limit h, command)
