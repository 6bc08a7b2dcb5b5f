-- One repeated field is decided exactly: a Conflict comes where no word makes the sides equal, anything else where one does.
use Rattle.std.specs.Prelude.{if◌then◌else◌}
use mathlib.Core.Path.{◌≡◌, refl, sym, ap, subst, ◌∙◌}
use mathlib.Core.Bool.{Bool, true, false, not, ◌&&◌, ◌||◌}
use mathlib.Core.List.{List, [], ◌∷◌, ◌++◌, append-nil}
use mathlib.Core.Logic.{inl, inr, ⊎_elim}
use mathlib.Core.Option.{Option, none, some}
use Prim.Native.Nat.{ℕ, zero, suc}
use lib.ListN.{length}
use lib.IntN.{ℤ}
use lib.Dec.{eqb}
use borrow.Author.Tests.{eqb-true, eq-eqb}
use Rattle.records.specs.Lists.{all, any, first_of, concat_map, is_in, Every, none_left, and}
use Rattle.records.specs.Store.{Store, Out, ok, stop, and_then, ◌>>◌, give, kind, is_constant, is_variable, is_concat, text, same_class}
use Rattle.records.specs.Make.{add_key, is_key, constant_of, length_of, equation_of, make_constant, make_concat, make_length, make_equation}
use Rattle.records.specs.Rules.{is_char}
use Rattle.records.specs.Working.Audited.{Audited}
use Rattle.records.proofs.Lists.{both_left, both_right, left_false, right-false, either, clash, word_is, any_append, all_take, all_drop, every_all, every_map}
use Rattle.records.proofs.Grown.{Strings}
use Rattle.records.proofs.Kept.{constant-kept}
use Rattle.records.proofs.Works.{stop-not}
use Rattle.engine.specs.Explain.{height, walk, walked, explain}
use Rattle.sides.specs.Wordeq.{Answer, done, saturated, conflict, propagate, split, Tried, answer, pass, settled, same, rest, fixed, letters, is_full, occurrence, occurs, unequal, short, absent, constants, is_plain, alias, empties_at, empties, assigns, filled, lead, forced, first_span, fits, explain_all, variables, tile_by, tile, differ, clashes, fresh_variable, one_if_absent, split_character, split_heads, split_by, splits, after, is_bare, or_done, steps, closed, resolve}
use Rattle.sides.specs.Repeated.{OneField, Repeated, Word, NoWord, Decides}
use Rattle.sides.proofs.Strip.{same_self}
use Rattle.sides.proofs.Constants.{never-turned, constants-never, letters-characters, clashes-never}
use Rattle.sides.proofs.Tile.{no_fit}
use Rattle.sides.proofs.Field.{Constant, Entry, Sides, Lone, field_lone, field_sides, field_varies, left-apart, made-unlike, field_alone, field_there, label_varies, side_fixed, filling, Reduced, strip_reduced, reduced_sides, reduced_turned}

-- HOW WORK ENDS

abbrev is_conflict : Answer → Bool
is_conflict done = false
is_conflict saturated = false
is_conflict conflict = true
is_conflict (propagate v w k) = false
is_conflict (split l g n) = false

-- a Conflict where N holds, another answer or a stop where W does; where the step passes it changes nothing, and H holds
data Fair (N W H : Type 0) (s : Store) : Out (Option Answer) → Type 0 where
  passed : H → Fair N W H s (ok s none)
  clashed : {s₁ : Store} → N → Fair N W H s (ok s₁ (some conflict))
  told : {s₁ : Store} {x : Answer} → is_conflict x ≡ false → W → Fair N W H s (ok s₁ (some x))
  stopped : {n : ℕ} → W → Fair N W H s (stop n)

data Ended (N W : Type 0) : Out Answer → Type 0 where
  clashed : {s₁ : Store} → N → Ended N W (ok s₁ conflict)
  told : {s₁ : Store} {x : Answer} → is_conflict x ≡ false → W → Ended N W (ok s₁ x)
  stopped : {n : ℕ} → W → Ended N W (stop n)

module _ {N W : Type 0} {s : Store} where
  fair_pass : {o : Out (Option Answer)} → o ≡ ok s none → Fair N W (Unit {0}) s o
  fair_pass e = subst (Fair N W (Unit {0}) s) (sym e) (Fair.passed tt)

  fair_else : {H K : Type 0} (n : Tried) {o : Out (Option Answer)} → Fair N W H s o → (H → Fair N W K s (n s)) → Fair N W K s (and_then (settled n) o)
  fair_else n (Fair.passed h) f = f h
  fair_else n (Fair.clashed z) f = Fair.clashed z
  fair_else n (Fair.told e w) f = Fair.told e w
  fair_else n (Fair.stopped w) f = Fair.stopped w

  -- work after which something other than a Conflict is told
  fair_work : {A : Type 0} (f : A → Tried) → W → ((a : A) (s₁ : Store) → Fair N W W s (f a s₁)) → (o : Out A) → Fair N W W s (and_then f o)
  fair_work f w k (ok s₁ a) = k a s₁
  fair_work f w k (stop n) = Fair.stopped w

  fair_done : {o : Out (Option Answer)} → Fair N W W s o → Ended N W (and_then or_done o)
  fair_done (Fair.passed w) = Ended.told refl w
  fair_done (Fair.clashed z) = Ended.clashed z
  fair_done (Fair.told e w) = Ended.told e w
  fair_done (Fair.stopped w) = Ended.stopped w

-- N and W in other words
ended-map : {N W N' W' : Type 0} {o : Out Answer} → (N → N') → (W → W') → Ended N W o → Ended N' W' o
ended-map f g (Ended.clashed z) = Ended.clashed (f z)
ended-map f g (Ended.told e w) = Ended.told e (g w)
ended-map f g (Ended.stopped w) = Ended.stopped (g w)

ended-closed : {N W : Type 0} (rs : List (ℕ × ℕ)) {o : Out Answer} → Ended N W o → Ended N W (and_then (closed rs) o)
ended-closed rs (Ended.clashed z) = Ended.clashed z
ended-closed rs (Ended.stopped w) = Ended.stopped w
ended-closed rs (Ended.told {x = done} e w) = Ended.told refl w
ended-closed rs (Ended.told {x = saturated} e w) = Ended.told refl w
ended-closed rs (Ended.told {x = conflict} e w) = clash refl e
ended-closed rs (Ended.told {x = propagate v y k} e w) = Ended.told refl w
ended-closed rs (Ended.told {x = split l g n} e w) = Ended.told refl w

-- a term explains itself by nothing
explain-self : (a : ℕ) (s : Store) → explain a a s ≡ ok s tt
unfolding explain walked walk
explain-self a s = go (height s (a, a))
  where
    go : (h : ℕ) → ◌≡◌ {A = Out (Unit {0})} (and_then (λ seen. give tt) (walk h (a, a) [] s)) (ok s tt)
    go zero = refl
    go (suc h) = rw (eq-eqb a a refl)

explain_all-self : (v : ℕ) (s : Store) {us : List ℕ} → Every (λ u. u ≡ v) us → explain_all us v s ≡ ok s tt
unfolding explain_all
explain_all-self v s none_left = refl
explain_all-self v s (and p k) = rw (p, explain-self v s) (explain_all-self v s k)

first-there : (p : ℕ → Bool) (x : ℕ) (l : List ℕ) → p x ≡ true → first_of p (x ∷ l) ≡ some x
unfolding first_of
first-there p x l e = go (p x) e
  where
    go : (b : Bool) → b ≡ true → (elim b as (λ z. Option ℕ) [ true ↦ some x | false ↦ first_of p l ]) ≡ some x
    go true z = refl
    go false z = clash z refl

-- THE STEPS OVER A SIDE c AND A LABEL m

module _ {s : Store} {v : ℕ} (d : Audited s) (lone : Lone s v) where
  -- 2
  no_occurrence : (past l : List ℕ) → Every (Constant s) l → occurrence s v past l ≡ none
  unfolding occurrence
  no_occurrence past [] k = refl
  no_occurrence past (a ∷ l) (and e k) = go (no_occurrence (past ++ (a ∷ [])) l k) (same_class s a v && any (is_full s) (past ++ l)) (left_false _ _ (left-apart lone a e))
    where
      go : occurrence s v (past ++ (a ∷ [])) l ≡ none → (b : Bool) → b ≡ false → ◌≡◌ {A = Option ℕ} (elim b as (λ z. Option ℕ) [ true ↦ some a | false ↦ occurrence s v (past ++ (a ∷ [])) l ]) none
      go ih true z = clash refl z
      go ih false z = ih

  -- a constant is no variable
  constant-plain : (a : ℕ) → Constant s a → is_variable s a ≡ false
  constant-plain a e = let k = eqb-true (kind s a) 1 e in rw k

  constant_unplain : (a : ℕ) → Constant s a → is_plain s a ≡ false
  unfolding is_plain
  constant_unplain a e = rw (constant-plain a e)

  -- a label of one entry
  single : (a : ℕ) → is_in v (a ∷ []) ≡ true → a ≡ v
  unfolding is_in any
  single a e = ⊎_elim (λ h. sym (eqb-true v a h)) (λ h. clash h refl) (either (eqb v a) false e)

  -- variables alone are filled by ""
  filled_none : (m : List ℕ) → all (is_variable s) m ≡ true → filled s [] m ≡ []
  unfolding filled concat_map all
  filled_none [] e = refl
  filled_none (a ∷ m) e = let k = eqb-true (kind s a) 2 (both_left _ _ e) in rw k (filled_none m (both_right (is_variable s a) _ e))

  -- the field alone is filled by the word
  filled-one : (u : List ℕ) (a : ℕ) → a ≡ v → filled s u (a ∷ []) ≡ u
  unfolding filled concat_map
  filled-one u a e = rw (e, field_varies lone) (append-nil u)

  -- "" is made, and the first variable is not the same as it
  empties_side : {c m : List ℕ} → Sides s v c m → Fair (NoWord s c m) (Word s c m) (Unit {0}) s (empties c m s)
  unfolding empties all letters concat_map
  empties_side {c = x ∷ l} h = Fair.passed tt
  empties_side {c = []} {m = []} h = Fair.passed tt
  empties_side {c = []} {m = a ∷ []} h = Fair.passed tt
  empties_side {c = []} {m = a ∷ b ∷ r} h = go (all (is_variable s) (a ∷ b ∷ r)) refl
    where
      e-then : ℕ → Tried
      e-then e s₁ = empties_at e (first_of (λ u. not (same s₁ u e)) (a ∷ b ∷ r)) s₁

      word : all (is_variable s) (a ∷ b ∷ r) ≡ true → Word s [] (a ∷ b ∷ r)
      word e = filling lone h d [] refl (filled_none (a ∷ b ∷ r) e)

      is_field : all (is_variable s) (a ∷ b ∷ r) ≡ true → Every (Entry s v) (a ∷ b ∷ r) → a ≡ v
      is_field e (and (inl k) z) = clash (both_left _ _ e) (constant-plain a k)
      is_field e (and (inr k) z) = k

      made : all (is_variable s) (a ∷ b ∷ r) ≡ true → (o : Out ℕ) → make_constant [] s ≡ o → Fair (NoWord s [] (a ∷ b ∷ r)) (Word s [] (a ∷ b ∷ r)) (Unit {0}) s (and_then e-then o)
      made e (stop n) q = Fair.stopped (word e)
      made e (ok s₁ t) q =
          rw (first-there (λ u. not (same s₁ u t)) a (b ∷ r) (ap not (ap (λ (x : ℕ). same s₁ x t) (is_field e h.entries) ∙ made-unlike lone d (constant-kept [] s s₁ t d refl q))))
          (Fair.told refl (word e))

      go : (x : Bool) → all (is_variable s) (a ∷ b ∷ r) ≡ x → Fair (NoWord s [] (a ∷ b ∷ r)) (Word s [] (a ∷ b ∷ r)) (Unit {0}) s ((if x then (λ s₁. and_then e-then (make_constant [] s₁)) else pass) s)
      go true e = made e (make_constant [] s) refl
      go false e = Fair.passed tt

  -- the joined word is made for the field
  assigns_label : {c m : List ℕ} → Sides s v c m → Fair (NoWord s c m) (Word s c m) (Unit {0}) s (assigns m c s)
  unfolding assigns
  assigns_label {m = []} h = Fair.passed tt
  assigns_label {m = a ∷ b ∷ r} h = Fair.passed tt
  assigns_label {c} {m = a ∷ []} h = go (is_variable s a && fixed s c)
    where
      word : Word s c (a ∷ [])
      word = filling lone h d (letters s c) (letters-characters s c d) (filled-one (letters s c) a (single a h.occurs))

      made : (o : Out ℕ) → Fair (NoWord s c (a ∷ [])) (Word s c (a ∷ [])) (Unit {0}) s (and_then (λ w. answer (propagate a w false)) o)
      made (ok s₁ t) = Fair.told refl word
      made (stop n) = Fair.stopped word

      go : (x : Bool) → Fair (NoWord s c (a ∷ [])) (Word s c (a ∷ [])) (Unit {0}) s ((if x then (λ s₁. and_then (λ w. answer (propagate a w false)) (make_constant (letters s c) s₁)) else pass) s)
      go true = made (make_constant (letters s c) s)
      go false = Fair.passed tt

  module _ {c m : List ℕ} (h : Sides s v c m) where
    abbrev N : Type 0
    N = NoWord s c m

    abbrev W : Type 0
    W = Word s c m

    occurs_side : occurs c m s ≡ ok s none
    unfolding occurs
    occurs_side = go c h.constants
      where
        go : (c : List ℕ) → Every (Constant s) c → occurs c m s ≡ ok s none
        go [] k = refl
        go (a ∷ []) (and e k) = rw e
        go (a ∷ b ∷ l) k = refl

    occurs_label : occurs m c s ≡ ok s none
    unfolding occurs
    occurs_label = go m h.occurs
      where
        go : (m : List ℕ) → is_in v m ≡ true → occurs m c s ≡ ok s none
        go [] e = refl
        go (a ∷ []) e = rw (single a e, field_varies lone, no_occurrence [] c h.constants)
        go (a ∷ b ∷ l) e = refl

    -- 4
    alias_side : alias c m s ≡ ok s none
    unfolding alias
    alias_side = go c m h.constants
      where
        go : (c m : List ℕ) → Every (Constant s) c → alias c m s ≡ ok s none
        go [] m k = refl
        go (a ∷ []) [] k = refl
        go (a ∷ []) (b ∷ []) (and e k) = rw (constant_unplain a e)
        go (a ∷ []) (b ∷ x ∷ r) k = refl
        go (a ∷ b ∷ l) m k = refl

    alias_label : alias m c s ≡ ok s none
    unfolding alias
    alias_label = go c m h.constants
      where
        go : (c m : List ℕ) → Every (Constant s) c → alias m c s ≡ ok s none
        go c [] k = refl
        go [] (a ∷ []) k = refl
        go (b ∷ []) (a ∷ []) (and e k) = rw (right-false (is_plain s a) _ (constant_unplain b e))
        go (b ∷ x ∷ r) (a ∷ []) k = refl
        go c (a ∷ b ∷ l) k = refl

    empties_label : empties m c s ≡ ok s none
    unfolding empties is_in any
    empties_label = go m h.occurs
      where
        go : (m : List ℕ) → is_in v m ≡ true → empties m c s ≡ ok s none
        go [] e = clash e refl
        go (a ∷ m) e = refl

    assigns_side : assigns c m s ≡ ok s none
    unfolding assigns
    assigns_side = go c h.constants
      where
        go : (c : List ℕ) → Every (Constant s) c → assigns c m s ≡ ok s none
        go [] k = refl
        go (a ∷ []) (and e k) = rw (constant-plain a e)
        go (a ∷ b ∷ l) k = refl

    -- 5: a side that fits is filled by the first span
    fits_word : (k : ℕ) → fits s (letters s c) m k ≡ true → W
    unfolding fits first_span
    fits_word k e =
        filling lone h d (first_span s (letters s c) m k) (all_take is_char (forced s (letters s c) m k) _ (all_drop is_char (length (lead s m)) (letters s c) (letters-characters s c d)))
        (word_is _ _ (both_right (eqb _ (length (letters s c))) _ e))

    tile_side : Fair N W W s (tile c m s)
    unfolding tile tile_by
    tile_side = rw (side_fixed lone h) (by (variables s m) refl)
      where
        by : (vs : List ℕ) → variables s m ≡ vs → Fair N W W s (tile_by s c m vs s)
        by [] p = absurd (field_there lone h p)
        by (u ∷ us) p = go (fits s (letters s c) m (suc (length us))) refl
          where
            alike : Every (λ x. x ≡ v) (u ∷ us) → Every (λ x. x ≡ u) us
            alike (and q k) = every_map (λ x e. e ∙ sym q) k

            each : Every (λ x. x ≡ u) us
            each = alike (subst (Every (λ x. x ≡ v)) p (field_alone lone h))

            all_same : all (λ x. same s x u) us ≡ true
            all_same = every_all (every_map (λ x e. same_self s x u e) each)

            never : fits s (letters s c) m (suc (length us)) ≡ false → N
            never e w rd z = no_fit c m s u us p (side_fixed lone h) e w rd (every_map (λ x q. ap w q) each) z

            go : (x : Bool) → fits s (letters s c) m (suc (length us)) ≡ x
                → Fair N W W s ((if all (λ x. same s x u) us && not x then (explain_all us u >> answer conflict) else pass) s)
            go true e = rw all_same (Fair.passed (fits_word _ e))
            go false e = rw (all_same, explain_all-self u s each) (Fair.clashed (never e))

    tile_label : tile m c s ≡ ok s none
    unfolding tile
    tile_label = rw (label_varies lone h)

-- STEPS 3, 6 AND 7 OF ANY TWO LISTS

module _ {N W : Type 0} (s : Store) where
  constants_fair : (l r : List ℕ) → (NoWord s l r → N) → Fair N W (Unit {0}) s (constants l r s)
  unfolding constants
  constants_fair l r f = go (unequal s l r || short s l r || short s r l || absent s l r || absent s r l) refl
    where
      go : (x : Bool) → unequal s l r || short s l r || short s r l || absent s l r || absent s r l ≡ x → Fair N W (Unit {0}) s ((if x then answer conflict else pass) s)
      go true e = Fair.clashed (f (constants-never s l r e))
      go false e = Fair.passed tt

  clashes_fair : (l r : List ℕ) → (NoWord s l r → N) → W → Fair N W W s (clashes l r s)
  unfolding clashes
  clashes_fair [] r f w = Fair.passed w
  clashes_fair (a ∷ l) [] f w = Fair.passed w
  clashes_fair (a ∷ l) (b ∷ r) f w = go (is_constant s a && is_constant s b && differ (text s a) (text s b)) refl
    where
      go : (x : Bool) → is_constant s a && is_constant s b && differ (text s a) (text s b) ≡ x → Fair N W W s ((if x then answer conflict else pass) s)
      go true e = Fair.clashed (f (clashes-never s a b l r e))
      go false e = Fair.passed w

  module _ (g : ℤ) (w : W) where
    on : {A : Type 0} {f : A → Tried} → ((a : A) (s₁ : Store) → Fair N W W s (f a s₁)) → (o : Out A) → Fair N W W s (and_then f o)
    on {f = f} k o = fair_work f w k o

    character_fair : (x c : ℕ) (s₁ : Store) → Fair N W W s (split_character g x c s₁)
    unfolding split_character
    character_fair x c s₁ =
        on (λ i s₂. on (λ e s₃. on (λ j s₄. on (λ p s₅. on (λ k s₆. on (λ h s₇. on (λ z s₈. on (λ t s₉. on (λ q s₀. Fair.told refl w) (make_equation x t s₉)) (make_concat (h ∷ z ∷ []) s₈)) (fresh_variable s₇))
        (make_constant (c ∷ []) s₆)) (one_if_absent (constant_of (c ∷ [])) s₅)) (make_equation x e s₄)) (one_if_absent (equation_of x e) s₃)) (make_constant [] s₂)) (one_if_absent (constant_of []) s₁)

    heads_fair : (a b : ℕ) (s₁ : Store) → Fair N W W s (split_heads g a b s₁)
    unfolding split_heads
    heads_fair a b s₁ =
        on (λ i s₂. on (λ la s₃. on (λ j s₄. on (λ lb s₅. on (λ k s₆. on (λ p s₇. on (λ x s₈. on (λ t s₉. on (λ q s₀. on (λ y t₁. on (λ u t₂. on (λ o t₃. Fair.told refl w) (make_equation b u t₂)) (make_concat (a ∷ y ∷ []) t₁)) (fresh_variable s₀)) (make_equation a t s₉))
        (make_concat (b ∷ x ∷ []) s₈)) (fresh_variable s₇)) (make_equation la lb s₆)) (one_if_absent (equation_of la lb) s₅)) (make_length b s₄))
        (one_if_absent (length_of b) s₃)) (make_length a s₂)) (one_if_absent (length_of a) s₁)

    by_fair : (x : ℕ) (u : List ℕ) (a b : ℕ) (s₁ : Store) → Fair N W W s (split_by g x u (split_heads g a b) s₁)
    by_fair x [] a b s₁ = heads_fair a b s₁
    by_fair x (c ∷ u) a b s₁ = character_fair x c s₁

    splits_fair : (added : Bool) (l r : List ℕ) → Fair N W W s (splits g added l r s)
    unfolding splits
    splits_fair added [] r = Fair.passed w
    splits_fair added (a ∷ l) [] = Fair.passed w
    splits_fair added (a ∷ l) (b ∷ r) = go (is_constant s a && is_constant s b) (added || is_key s a b)
      where
        last : (x y : Bool) (s₁ : Store)
            → Fair N W W s ((if x then split_by g a (text s b) (split_heads g a b) else if y then split_by g b (text s a) (split_heads g a b) else split_heads g a b) s₁)
        last true y s₁ = by_fair a (text s b) a b s₁
        last false true s₁ = by_fair b (text s a) a b s₁
        last false false s₁ = heads_fair a b s₁

        go : (x y : Bool) → Fair N W W s ((if x then pass else if y then answer saturated
            else (add_key a b >> (if is_constant s b then split_by g a (text s b) (split_heads g a b) else if is_constant s a then split_by g b (text s a) (split_heads g a b) else split_heads g a b))) s)
        go true y = Fair.passed w
        go false true = Fair.told refl w
        go false false = on (λ u s₁. last (is_constant s b) (is_constant s a) s₁) (add_key a b s)

-- STEPS 2 TO 7

module _ {s : Store} {v : ℕ} (d : Audited s) (lone : Lone s v) {c m : List ℕ} (h : Sides s v c m) (g : ℤ) (added : Bool) where
  after_side : Fair (NoWord s c m) (Word s c m) (Word s c m) s (after g added c m s)
  unfolding after
  after_side =
      fair_else _ (fair_else _ (fair_else _ (fair_else _ (fair_else _ (fair_else _ (fair_else _ (fair_else _ (fair_else _ (fair_else _ (fair_else _
      (fair_pass (occurs_side d lone h)) (λ u. fair_pass (occurs_label d lone h)))
      (λ u. constants_fair s c m (λ n. n)))
      (λ u. fair_pass (alias_side d lone h))) (λ u. empties_side d lone h)) (λ u. fair_pass (empties_label d lone h)))
      (λ u. fair_pass (assigns_side d lone h))) (λ u. assigns_label d lone h))
      (λ u. tile_side d lone h)) (λ w. label_then w))
      (λ w. clashes_fair s c m (λ n. n) w))
      (λ w. splits_fair s g w added c m)
    where
      label_then : Word s c m → Fair (NoWord s c m) (Word s c m) (Word s c m) s (tile m c s)
      label_then w = subst (Fair _ _ _ s) (sym (tile_label d lone h)) (Fair.passed w)

  after_label : Fair (NoWord s c m) (Word s c m) (Word s c m) s (after g added m c s)
  unfolding after
  after_label =
      fair_else _ (fair_else _ (fair_else _ (fair_else _ (fair_else _ (fair_else _ (fair_else _ (fair_else _ (fair_else _ (fair_else _ (fair_else _
      (fair_pass (occurs_label d lone h)) (λ u. fair_pass (occurs_side d lone h)))
      (λ u. constants_fair s m c (never-turned s c m)))
      (λ u. fair_pass (alias_label d lone h))) (λ u. fair_pass (empties_label d lone h))) (λ u. empties_side d lone h))
      (λ u. assigns_label d lone h)) (λ u. fair_pass (assigns_side d lone h)))
      (λ u. fair_pass (tile_label d lone h))) (λ u. tile_side d lone h))
      (λ w. clashes_fair s m c (never-turned s c m) w))
      (λ w. splits_fair s g w added m c)

-- STEPS 1 TO 8

bare-left : (v : ℕ) (l r : List ℕ) → is_in v l ≡ true → is_bare l r ≡ false
unfolding is_in any
bare-left v [] r e = clash e refl
bare-left v (a ∷ l) r e = refl

bare-right : (v : ℕ) (l r : List ℕ) → is_in v r ≡ true → is_bare l r ≡ false
unfolding is_in any
bare-right v [] [] e = clash e refl
bare-right v [] (b ∷ r) e = refl
bare-right v (a ∷ l) r e = refl

steps-ended : {N W : Type 0} {s : Store} (g : ℤ) (l r l₂ r₂ : List ℕ) → Reduced s l r l₂ r₂ → is_bare l₂ r₂ ≡ false → ((added : Bool) → Fair N W W s (after g added l₂ r₂ s)) → Ended N W (steps g l r s)
unfolding steps
steps-ended g l r l₂ r₂ k b f = rw (k.strips, b) (fair_done (f _))

module _ {s : Store} {v : ℕ} (lone : Lone s v) where
  no_concat : {l : List ℕ} → Every (Entry s v) l → any (is_concat s) l ≡ false
  unfolding any
  no_concat none_left = refl
  no_concat (and {a} (inl e) k) = let i = eqb-true (kind s a) 1 e in rw i (no_concat k)
  no_concat (and {a} (inr e) k) = let i : kind s a ≡ 2 = ap (kind s) e ∙ lone.variable in rw i (no_concat k)

  flat : (l r : List ℕ) → Every (Entry s v) l → Every (Entry s v) r → any (is_concat s) (l ++ r) ≡ false
  flat l r hl hr = let p = no_concat hl in let q = no_concat hr in any_append (is_concat s) l r ∙ rw (p, q)

decided : {s : Store} {l r : List ℕ} {o : Out Answer} → Ended (NoWord s l r) (Word s l r) o → Decides s l r o
decided (Ended.clashed {s₁} z) = record { says = λ s' e. z; exactly = λ n. (s₁, refl); otherwise = λ f. absurd (f s₁ refl) }
decided (Ended.told {s₁} {x} e w) = record {
  says = λ s' q. (let i : x ≡ conflict = cc in clash (ap is_conflict i) e);
  exactly = λ n. absurd (n w.words w.reading w.equal);
  otherwise = λ f. w;
}
decided (Ended.stopped w) = record { says = λ s' q. stop-not q; exactly = λ n. absurd (n w.words w.reading w.equal); otherwise = λ f. w }

-- RESOLVE

module _ (l r : List ℕ) (g : ℤ) (s : Store) (v : ℕ) (d : Audited s) (hl : Strings s l) (hr : Strings s r) where
  -- what is decided of what is left is decided of the lists
  whole : {l₂ r₂ : List ℕ} {o : Out Answer} → Reduced s l r l₂ r₂ → Ended (NoWord s l₂ r₂) (Word s l₂ r₂) o → Ended (NoWord s l r) (Word s l r) o
  whole k = ended-map (λ n w rd e. n w rd (k.down w rd e)) (λ w. record { words = w.words; reading = w.reading; equal = k.up w.words w.reading w.equal })

  closed-steps : any (is_concat s) (l ++ r) ≡ false → Ended (NoWord s l r) (Word s l r) (steps g l r s) → Decides s l r (resolve l r g s)
  unfolding resolve
  closed-steps e k = rw e (decided (ended-closed s.reasons k))

  by_side : OneField s v l r → Decides s l r (resolve l r g s)
  by_side f =
      closed-steps (flat lone l r (every_map (λ a k. inl k) h.constants) h.entries)
      (whole k (steps-ended g l r _ _ k (bare-right v (rest s l r).0 (rest s l r).1 h₂.occurs) (λ added. after_side d lone h₂ g added)))
    where
      lone : Lone s v
      lone = field_lone f

      h : Sides s v l r
      h = field_sides f

      k : Reduced s l r (rest s l r).0 (rest s l r).1
      k = strip_reduced lone l r hl hr (every_map (λ a k. inl k) h.constants) h.entries (inl h.constants)

      h₂ : Sides s v (rest s l r).0 (rest s l r).1
      h₂ = reduced_sides lone k h

  by_label : OneField s v r l → Decides s l r (resolve l r g s)
  by_label f =
      closed-steps (flat lone l r h.entries (every_map (λ a k. inl k) h.constants))
      (whole k (ended-map (never-turned s (rest s l r).0 (rest s l r).1) turned (steps-ended g l r _ _ k (bare-left v (rest s l r).0 (rest s l r).1 h₂.occurs) (λ added. after_label d lone h₂ g added))))
    where
      lone : Lone s v
      lone = field_lone f

      h : Sides s v r l
      h = field_sides f

      k : Reduced s l r (rest s l r).0 (rest s l r).1
      k = strip_reduced lone l r hl hr h.entries (every_map (λ a k. inl k) h.constants) (inr h.constants)

      h₂ : Sides s v (rest s l r).1 (rest s l r).0
      h₂ = reduced_turned lone k h

      turned : Word s (rest s l r).1 (rest s l r).0 → Word s (rest s l r).0 (rest s l r).1
      turned w = record { words = w.words; reading = w.reading; equal = sym w.equal }

  pub resolve-decides : Repeated s v l r → Decides s l r (resolve l r g s)
  resolve-decides = ⊎_elim by_side by_label
