-- Steps 2 to 5 on a side of constants and a side of one variable class, with a remainder or a shortage: the answer is Conflict, unless the
-- reasons are full.
use Rattle.std.specs.Prelude.{if◌then◌else◌}
use mathlib.Core.Path.{◌≡◌, refl, sym, ap, subst, ◌∙◌}
use mathlib.Core.Bool.{Bool, true, false, ◌&&◌, ◌||◌}
use mathlib.Core.List.{List, [], ◌∷◌}
use mathlib.Core.Option.{Option, none, some}
use Prim.Native.Nat.{ℕ, suc, ◌+◌, ◌*◌, ◌-◌, ◌%◌, ◌≤◌, ◌<◌}
use native.Mathlib.Omega.{arith}
use lib.ListN.{length}
use lib.IntN.{ℤ}
use borrow.Author.Tests.{eqb-true, lt-ltb, ne_eqb}
use Rattle.records.specs.Lists.{all, keep, concat_map}
use Rattle.records.specs.Store.{Store, Out, ok, stop, and_then, is_constant, is_variable, kind}
use Rattle.records.specs.Make.{with_reasons}
use Rattle.records.specs.Working.Audited.{Audited}
use Rattle.records.proofs.Lists.{both_left, both_right, both_true, left_false, clash, decide, or_left, or_right}
use Rattle.records.proofs.Grown.{Strings}
use Rattle.engine.specs.Explain.{explain}
use Rattle.sides.specs.Wordeq.{Answer, conflict, Tried, answer, pass, settled, same, fixed, letters_of, letters, variables, occurrence, occurs_at, occurs, unequal, short, absent, constants, alias, empties, assigns, forced, fits, explain_all, tile_by, tile, clashes, splits, after, is_bare}
use Rattle.sides.proofs.Cited.{Full}
use Rattle.sides.proofs.Occurs.{occurs-full}
use Rattle.sides.proofs.Tile.{tile-full}
use Rattle.sides.proofs.Residual.{fixed-variables, variables-short}
use Rattle.forced.specs.Forced.{one_class, is_forced}
use Rattle.forced.proofs.Sums.{Cause, lacks, leaves, uneven, some_left, two-left}

-- HOW A STEP ENDS

-- it passes and leaves the store, or its answer is Conflict, or the reasons are full
pub data Quiet (s : Store) : Out (Option Answer) → Type 0 where
  passes : Quiet s (ok s none)
  conflicts : (s' : Store) → Quiet s (ok s' (some conflict))
  refused : Quiet s (stop 7)

-- its answer is Conflict, or the reasons are full
pub data Ending : Out (Option Answer) → Type 0 where
  ends : (s' : Store) → Ending (ok s' (some conflict))
  stops : Ending (stop 7)

quiet_else : {s : Store} {o : Out (Option Answer)} (n : Tried) → Quiet s o → Quiet s (n s) → Quiet s (and_then (settled n) o)
quiet_else n passes q = q
quiet_else n (conflicts s') q = conflicts s'
quiet_else n refused q = refused

ending_else : {s : Store} {o : Out (Option Answer)} (n : Tried) → Quiet s o → Ending (n s) → Ending (and_then (settled n) o)
ending_else n passes q = q
ending_else n (conflicts s') q = ends s'
ending_else n refused q = stops

ending_stays : {o : Out (Option Answer)} (n : Tried) → Ending o → Ending (and_then (settled n) o)
ending_stays n (ends s') = ends s'
ending_stays n stops = stops

explained : (o : Out (Unit {0})) → Full (and_then (λ u. answer conflict) o) → Ending (and_then (λ u. answer conflict) o)
explained (ok s' u) h = ends s'
explained (stop n) h = subst (λ (k : ℕ). Ending (stop k)) (sym (h.seven n refl)) stops

quiet_of : {s : Store} {o : Out (Option Answer)} → Ending o → Quiet s o
quiet_of (ends s') = conflicts s'
quiet_of stops = refused

-- STEPS 2 AND 3, WHATEVER THE LISTS

module _ (s : Store) where
  occurs_quiet : (l r : List ℕ) → Full (occurs l r s) → Quiet s (occurs l r s)
  unfolding occurs
  occurs_quiet [] r h = passes
  occurs_quiet (x ∷ y ∷ l) r h = passes
  occurs_quiet (x ∷ []) r h = go (is_constant s x) (occurrence s x [] r) h
    where
      at : (o : Option ℕ) → Full (occurs_at x o s) → Quiet s (occurs_at x o s)
      at none h = passes
      at (some y) h = quiet_of (explained (explain y x s) h)

      go : (b : Bool) (o : Option ℕ) → Full ((if b then pass else occurs_at x o) s) → Quiet s ((if b then pass else occurs_at x o) s)
      go true o h = passes
      go false o h = at o h

  tested : (b : Bool) → Quiet s ((if b then answer conflict else pass) s)
  tested true = conflicts s
  tested false = passes

  constants_quiet : (l r : List ℕ) → Quiet s (constants l r s)
  unfolding constants
  constants_quiet l r = tested (unequal s l r || short s l r || short s r l || absent s l r || absent s r l)

  constants-ends : (l r : List ℕ) → short s l r || short s r l ≡ true → Ending (constants l r s)
  unfolding constants
  constants-ends l r e = go (unequal s l r) (short s l r) (short s r l) (absent s l r) (absent s r l) e
    where
      go : (a b c d f : Bool) → b || c ≡ true → Ending ((if a || b || c || d || f then answer conflict else pass) s)
      go true b c d f e = ends s
      go false true c d f e = ends s
      go false false true d f e = ends s
      go false false false d f e = clash e refl

-- STEP 5 WITHOUT A FIT

tile-cites : (s : Store) (l r : List ℕ) (v : ℕ) (vs : List ℕ) → all (λ u. same s u v) vs ≡ true → fits s (letters s l) r (suc (length vs)) ≡ false → Full (tile_by s l r (v ∷ vs) s)
    → Ending (tile_by s l r (v ∷ vs) s)
unfolding tile_by
tile-cites s l r v vs a f h = rw (a, f) (explained (explain_all vs v s) (rw (a, f) at h))

-- THE TWO SIDES

module _ (s : Store) (word side : List ℕ) (form : is_forced s word side ≡ true) where
  word-fixed : fixed s word ≡ true
  word-fixed = both_left (fixed s word) _ form

  -- the first variable and the others
  pub record Found : Type 0 where
    pub first : ℕ
    pub others : List ℕ
    pub is : variables s side ≡ first ∷ others
    pub same_all : all (λ u. same s u first) others ≡ true

  pub found : Found
  unfolding one_class
  found = go (variables s side) refl (both_right (fixed s word) _ form)
    where
      go : (vs : List ℕ) → variables s side ≡ vs → one_class s vs ≡ true → Found
      go [] e h = clash h refl
      go (v ∷ vs) e h = record { first = v; others = vs; is = e; same_all = h }

  pub some_variable : 0 < length (variables s side)
  some_variable = let e = ap length found.is in omega arith

  side_loose : fixed s side ≡ false
  side_loose = decide (fixed s side) (λ e. (let f = ap length (fixed-variables s side e) in let g = some_variable in absurd (omega arith))) (λ e. e)

  abbrev count : ℕ
  count = length (variables s side)

  abbrev c : ℕ
  c = length (letters s side)

  abbrev l : ℕ
  l = length (letters s word)

  -- A SHORTAGE: STEP 3

  side_short : l < c → short s word side ≡ true
  unfolding short
  side_short h = both_true _ _ word-fixed (lt-ltb l c h)

  -- A REMAINDER: STEPS 4 AND 5

  module _ (h : c ≤ l) (u : 0 < (l - c) % count) where
    -- two atoms or more against one or more
    two : 2 ≤ length side
    two = let a = two-left count c l h u some_variable in let b = variables-short s side in omega arith

    letters_none : letters s [] ≡ []
    unfolding letters concat_map
    letters_none = refl

    word_some : word ≡ [] → ⊥
    word_some e = let a = some_left count c l h u in let b = ap (λ (w : List ℕ). length (letters s w)) e ∙ ap length letters_none in absurd (omega arith)

    alias_left : alias word side s ≡ ok s none
    unfolding alias
    alias_left = go word side two
      where
        go : (w r : List ℕ) → 2 ≤ length r → alias w r s ≡ ok s none
        go [] r n = refl
        go (x ∷ []) [] n = refl
        go (x ∷ []) (a ∷ []) n = absurd (omega arith)
        go (x ∷ []) (a ∷ b ∷ r) n = refl
        go (x ∷ y ∷ w) r n = refl

    alias_right : alias side word s ≡ ok s none
    unfolding alias
    alias_right = go side two
      where
        go : (r : List ℕ) → 2 ≤ length r → alias r word s ≡ ok s none
        go [] n = refl
        go (a ∷ []) n = absurd (omega arith)
        go (a ∷ b ∷ r) n = refl

    empties_left : empties word side s ≡ ok s none
    unfolding empties
    empties_left = go word word_some
      where
        go : (w : List ℕ) → (w ≡ [] → ⊥) → empties w side s ≡ ok s none
        go [] n = absurd (n refl)
        go (x ∷ w) n = refl

    empties_right : empties side word s ≡ ok s none
    unfolding empties
    empties_right = go side two
      where
        go : (r : List ℕ) → 2 ≤ length r → empties r word s ≡ ok s none
        go [] n = absurd (omega arith)
        go (a ∷ r) n = refl

    assigns_left : assigns word side s ≡ ok s none
    unfolding assigns fixed all
    assigns_left = go word word-fixed
      where
        not_variable : (a : ℕ) → is_constant s a ≡ true → is_variable s a ≡ false
        not_variable a e = let k = eqb-true (kind s a) 1 e in rw k

        go : (w : List ℕ) → fixed s w ≡ true → assigns w side s ≡ ok s none
        go [] e = refl
        go (a ∷ []) e = rw (not_variable a (both_left (is_constant s a) _ e))
        go (a ∷ b ∷ w) e = refl

    assigns_right : assigns side word s ≡ ok s none
    unfolding assigns
    assigns_right = go side two
      where
        go : (r : List ℕ) → 2 ≤ length r → assigns r word s ≡ ok s none
        go [] n = refl
        go (a ∷ []) n = absurd (omega arith)
        go (a ∷ b ∷ r) n = refl

    no_fit : (k : ℕ) → k ≡ count → fits s (letters s word) side k ≡ false
    unfolding fits
    no_fit k e =
        ap (λ (j : ℕ). fits s (letters s word) side j) e
        ∙ left_false _ _ (ne_eqb (count * forced s (letters s word) side count + c) l (uneven count c l h u))

    tile_left : Full (tile word side s) → Ending (tile word side s)
    unfolding tile
    tile_left f =
        rw word-fixed (subst (λ (vs : List ℕ). Ending (tile_by s word side vs s)) (sym found.is)
        (tile-cites s word side found.first found.others found.same_all (no_fit (suc (length found.others)) (sym (ap length found.is)))
        (subst (λ (vs : List ℕ). Full (tile_by s word side vs s)) found.is (rw word-fixed at f))))

    tile_right : tile side word s ≡ ok s none
    unfolding tile
    tile_right = rw side_loose

-- STEPS 2 TO 7, the constant side left or right

passes-is : {s : Store} {o : Out (Option Answer)} → o ≡ ok s none → Quiet s o
passes-is {s} e = subst (Quiet s) (sym e) passes

module _ (g : ℤ) (added : Bool) (s : Store) (au : Audited s) (word side : List ℕ) (hw : Strings s word) (hs : Strings s side) (form : is_forced s word side ≡ true) where
  abbrev unfit : Type 0
  unfit = Cause (length (variables s side)) (length (letters s side)) (length (letters s word))

  word_quiet : Quiet s (occurs word side s)
  word_quiet = occurs_quiet s word side (occurs-full word side s au hw hs)

  side_quiet : Quiet s (occurs side word s)
  side_quiet = occurs_quiet s side word (occurs-full side word s au hs hw)

  pub after_left_lem : unfit → Ending (after g added word side s)
  unfolding after
  after_left_lem (lacks h) =
      ending_stays (splits g added word side) (ending_stays (clashes word side) (ending_stays (tile side word) (ending_stays (tile word side) (ending_stays (assigns side word) (ending_stays (assigns word side) (ending_stays (empties side word) (ending_stays (empties word side) (ending_stays (alias word side) (
      ending_else (constants word side) (quiet_else (occurs side word) word_quiet side_quiet)
      (constants-ends s word side (or_left _ (short s side word) (side_short s word side form h))))))))))))
  after_left_lem (leaves h u) =
      ending_stays (splits g added word side) (ending_stays (clashes word side) (ending_stays (tile side word) (
      ending_else (tile word side)
      (quiet_else (assigns side word) (quiet_else (assigns word side) (quiet_else (empties side word) (quiet_else (empties word side) (quiet_else (alias word side) (quiet_else (constants word side) (quiet_else (occurs side word) word_quiet side_quiet) (constants_quiet s word side))
      (passes-is (alias_left s word side form h u)))
      (passes-is (empties_left s word side form h u)))
      (passes-is (empties_right s word side form h u)))
      (passes-is (assigns_left s word side form h u)))
      (passes-is (assigns_right s word side form h u)))
      (tile_left s word side form h u (tile-full word side s au hs)))))

  pub after-right : unfit → Ending (after g added side word s)
  unfolding after
  after-right (lacks h) =
      ending_stays (splits g added side word) (ending_stays (clashes side word) (ending_stays (tile word side) (ending_stays (tile side word) (ending_stays (assigns word side) (ending_stays (assigns side word) (ending_stays (empties word side) (ending_stays (empties side word) (ending_stays (alias side word) (
      ending_else (constants side word) (quiet_else (occurs word side) side_quiet word_quiet)
      (constants-ends s side word (or_right (short s side word) _ (side_short s word side form h))))))))))))
  after-right (leaves h u) =
      ending_stays (splits g added side word) (ending_stays (clashes side word) (
      ending_else (tile word side)
      (quiet_else (tile side word) (quiet_else (assigns word side) (quiet_else (assigns side word) (quiet_else (empties word side) (quiet_else (empties side word) (quiet_else (alias side word) (quiet_else (constants side word) (quiet_else (occurs word side) side_quiet word_quiet) (constants_quiet s side word))
      (passes-is (alias_right s word side form h u)))
      (passes-is (empties_right s word side form h u)))
      (passes-is (empties_left s word side form h u)))
      (passes-is (assigns_right s word side form h u)))
      (passes-is (assigns_left s word side form h u)))
      (passes-is (tile_right s word side form h u)))
      (tile_left s word side form h u (tile-full word side s au hs))))

-- WHICHEVER IS CONSTANT

-- lists of the form, with a remainder or a shortage
pub data Refuted (s : Store) (l r : List ℕ) : Type 0 where
  left : is_forced s l r ≡ true → Cause (length (variables s r)) (length (letters s r)) (length (letters s l)) → Refuted s l r
  right : is_forced s r l ≡ true → Cause (length (variables s l)) (length (letters s l)) (length (letters s r)) → Refuted s l r

pub after-ends : (g : ℤ) (added : Bool) (s : Store) → Audited s → (l r : List ℕ) → Strings s l → Strings s r → Refuted s l r → Ending (after g added l r s)
after-ends g added s au l r hl hr (left f c) = after_left_lem g added s au l r hl hr f c
after-ends g added s au l r hl hr (right f c) = after-right g added s au r l hr hl f c

-- something is left
pub not-bare : (s : Store) (l r : List ℕ) → Refuted s l r → is_bare l r ≡ false
unfolding keep
not-bare s [] [] (left f c) = (let n = some_variable s [] [] f in let z : length (variables s []) ≡ 0 = refl in absurd (omega arith))
not-bare s [] [] (right f c) = (let n = some_variable s [] [] f in let z : length (variables s []) ≡ 0 = refl in absurd (omega arith))
not-bare s [] (b ∷ r) x = refl
not-bare s (a ∷ l) r x = refl

-- reasons change nothing in this
module _ (s : Store) (rs : List (ℕ × ℕ)) where
  one-beside : (vs : List ℕ) → one_class (with_reasons s rs) vs ≡ one_class s vs
  unfolding one_class same
  one-beside [] = refl
  one-beside (v ∷ vs) = refl

  forced-beside : (l r : List ℕ) → is_forced (with_reasons s rs) l r ≡ is_forced s l r
  unfolding fixed
  forced-beside l r = ap (λ (b : Bool). fixed s l && b) (one-beside (variables s r))

  pub refuted_beside : (l r : List ℕ) → Refuted s l r → Refuted (with_reasons s rs) l r
  unfolding letters letters_of
  refuted_beside l r (left f c) = left (forced-beside l r ∙ f) c
  refuted_beside l r (right f c) = right (forced-beside r l ∙ f) c
