-- A list that a loop fills: what stands in it already, before what is still to come.
use Rattle.std.specs.Prelude.{Some, None}
use mathlib.Core.Path.{◌≡◌, refl, sym, ap, ◌∙◌}
use mathlib.Core.List.{List, [], ◌∷◌, ◌++◌, append_assoc, append-nil}
use mathlib.Core.Option.{Option, none, some}
use Prim.Native.Nat.{ℕ, ◌+◌, ◌-◌, ◌<◌, ◌≤◌}
use native.Mathlib.Numerals.{add-one}
use native.Mathlib.Omega.{arith}
use lib.ListN.{length, take, set}
use lib.ListN.{drop, length-drop}
use lib.Seq.{take-suc-set, take_all}
use Rattle.commands.specs.Texts.{onto}
use Rattle.commands.specs.Working.Readings.{Listed}

abbrev pub before : List ℕ → Option (List ℕ) → Option (List ℕ)
before w none = none
before w (some l) = some (w ++ l)

pub before-nil : (o : Option (List ℕ)) → before [] o ≡ o
before-nil none = refl
before-nil (some l) = refl

before-onto : (w : List ℕ) (x : ℕ) (o : Option (List ℕ)) → before w (onto x o) ≡ before (w ++ (x ∷ [])) o
before-onto w x none = refl
before-onto w x (some l) = ap some (sym (append_assoc w (x ∷ []) l))

-- n words of the list stand, and o is still to come; w is the whole
pub record Filled (whole : Option (List ℕ)) (l₀ l : List ℕ) (n : ℕ) (o : Option (List ℕ)) : Type 0 where
  pub long : length l ≡ length l₀
  pub rest : before (take n l) o ≡ whole

pub filled_none : (l : List ℕ) (o : Option (List ℕ)) → Filled o l l 0 o
filled_none l o = record { long = refl; rest = before-nil o }

module _ (whole : Option (List ℕ)) (l₀ l : List ℕ) (n : ℕ) (o : Option (List ℕ)) (f : Filled whole l₀ l n o) where
  pub filled-one : (x : ℕ) (o' : Option (List ℕ)) → n < length l₀ → o ≡ onto x o' → Filled whole l₀ (set l n x) (n + 1) o'
  filled-one x o' h e =
      let g = f.long in
      record {
        long = simp lib.ListN.length-set g;
        rest = rw (add-one n, take-suc-set l n x (omega arith)) (sym (before-onto (take n l) x o') ∙ ap (before (take n l)) (sym e) ∙ f.rest);
      }

  pub filled_all : n ≤ length l₀ → o ≡ some [] → Listed whole (Some n) l
  filled_all h e =
      let g = f.long in
      record { says = ap some (sym (append-nil (take n l))) ∙ ap (before (take n l)) (sym e) ∙ f.rest; fits = omega arith }

  pub filled_bad : o ≡ none → Listed whole None l
  filled_bad e = record { says = ap (before (take n l)) (sym e) ∙ f.rest; fits = omega arith }

-- all but the first, as a part of a slice
pub tail_is : (l : List ℕ) → take (length l - 1) (drop 1 l) ≡ drop 1 l
tail_is l = take_all (length l - 1) (drop 1 l) (let e = length-drop 1 l in omega arith)
