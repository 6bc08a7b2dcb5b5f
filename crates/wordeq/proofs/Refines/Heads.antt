-- Steps 6 and 7: the ways through the heads of the two lists.
use Rattle.std.specs.Prelude.{if◌then◌else◌}
use mathlib.Core.Path.{◌≡◌, refl, sym, ap, subst, ◌∙◌}
use mathlib.Core.Bool.{Bool, true, false, ◌&&◌, ◌||◌}
use mathlib.Core.List.{List, [], ◌∷◌, ◌++◌}
use mathlib.Core.Logic.{⊎_elim}
use mathlib.Core.Option.{Option, none, some}
use Prim.Native.Nat.{ℕ, zero, suc, ◌+◌, ◌-◌, ◌≤◌, ◌<◌}
use native.Mathlib.Nat.{eq-or-lt_of_le}
use native.Mathlib.Omega.{arith}
use lib.ListN.{length, drop, get_or}
use lib.Seq.{drop-cons}
use lib.IntN.{ℤ, pos, negsuc, neg_ℤ, ◌-ℤ◌, +ℤ_idl}
use lib.Dec.{ltb, leb}
use mir.Syntax.{w32}
use mir.Val.{SFits, to_z, of_z}
use mir.ValLaws.{to_z-of_z}
use borrow.Author.Tests.{eqb-true, eqb-false, ltb-true, lt-ltb, not-true}
use Rattle.records.specs.declared.State.{State}
use Rattle.records.specs.Lists.{all, any}
use Rattle.records.specs.Store.{Store, Out, ok, stop, and_then, ◌>>=◌, ◌>>◌, count, kind, is_constant, is_string, text}
use Rattle.records.specs.View.{Lent, store_of, pairs_view, read_in, termed, term_at}
use Rattle.records.specs.Rules.{is_char, is_list, list_limit}
use Rattle.records.specs.Make.{with_keys, ordered, same_pair, add_key, is_key}
use Rattle.records.specs.Working.Audited.{Audited, Ready}
use Rattle.records.specs.Working.Doing.{Working}
use Rattle.records.proofs.Lists.{both_left, both_right, clash, table_at_lem, table-length}
use Rattle.records.proofs.Readings.{text-characters}
use Rattle.records.proofs.Kept.{key_kept}
use Rattle.records.proofs.Doing.{working_same, working_is, working_answer}
use Rattle.records.proofs.Views.{text-words}
use Rattle.sides.specs.Wordeq.{Answer, saturated, conflict, split, Tried, ◌or_else◌, is_full, differ, clashes, split_heads, split_by, splits, is_guard}
use Rattle.sides.specs.Working.Results.{BothLists}
use Rattle.sides.specs.Working.Sides.{Texts, Spelled}
use Rattle.wordeq.specs.Working.Splits.{character_atoms, head_atoms}
use Rattle.wordeq.specs.Working.Heads.{HeadsApart, HeadPair, atoms_by, atoms_of, split_new}
use Rattle.sides.specs.Working.Counting.{split_from}
use Rattle.records.proofs.Counts.{higher-below}
use Rattle.records.proofs.Sequence.{grows_key, working_then, working_stop}
use Rattle.records.proofs.Works.{one_store}
use Rattle.sides.proofs.Strip.{Apart}
use Rattle.sides.proofs.SideReady.{ready-read_in, full-whole}
use Rattle.sides.proofs.Counted.{then_same, character-counted, heads-counted}
use Rattle.sides.proofs.FewAtoms.{chosen-few}
use Rattle.wordeq.proofs.Refines.SplitAtoms.{characters-then, heads_then_lem, grows-atoms}

-- THE GUARD

guard-negated : (g : ℤ) → pos 0 -ℤ g ≡ neg_ℤ g
guard-negated g = +ℤ_idl (neg_ℤ g)

guard-fits : (g : ℤ) → is_guard g ≡ true → SFits w32 g → SFits w32 (pos 0 -ℤ g)
unfolding is_guard
guard-fits g h f = subst (SFits w32) (sym (guard-negated g)) (go g h f)
  where
    go : (g : ℤ) → is_guard g ≡ true → SFits w32 g → SFits w32 (neg_ℤ g)
    go (pos zero) h f = record { sfits = f.sfits }
    go (pos (suc n)) h f = let k : suc n < 0x8000_0000 = f.sfits in let z : n < 0x8000_0000 = omega arith in record { sfits = z }
    go (negsuc n) h f =
        let k : n < 0x8000_0000 = f.sfits in
        let d = eqb-false n 0x7FFF_FFFF (not-true _ h) in
        let l : n ≤ 0x7FFF_FFFF = omega arith in
        let z : suc n < 0x8000_0000 = ⊎_elim (λ e. absurd (d e)) (λ (i : n < 0x7FFF_FFFF). omega arith) (eq-or-lt_of_le l) in
        record { sfits = z }

module _ (g : ℤ) (h : is_guard g ≡ true) (f : SFits w32 g) where
  pub opposite_fits : SFits w32 (to_z w32 0 -ℤ to_z w32 (of_z w32 g))
  opposite_fits = subst (λ (z : ℤ). SFits w32 (pos 0 -ℤ z)) (sym (to_z-of_z w32 g f)) (guard-fits g h f)

  pub opposite_is : to_z w32 (of_z w32 (to_z w32 0 -ℤ to_z w32 (of_z w32 g))) ≡ neg_ℤ g
  opposite_is = to_z-of_z w32 _ opposite_fits ∙ ap (λ (z : ℤ). pos 0 -ℤ z) (to_z-of_z w32 g f) ∙ guard-negated g

  -- as Split hands it on
  pub opposite_kept : (z : ℤ) → z ≡ neg_ℤ (to_z w32 (of_z w32 g)) → to_z w32 (of_z w32 z) ≡ neg_ℤ g
  opposite_kept z e =
      let k : z ≡ neg_ℤ g = e ∙ ap neg_ℤ (to_z-of_z w32 g f) in
      to_z-of_z w32 z (subst (SFits w32) (guard-negated g ∙ sym k) (guard-fits g h f)) ∙ k

-- A CONSTANT WITH A CHARACTER

pub read_in-of : {m : Lent} {c : State} → Ready m c → Spelled m.terms m.chars c
read_in-of {m} {c} ready = ready-read_in m c ready

pub texts-of : {m : Lent} {c : State} → Ready m c → Texts m.terms c
texts-of ready = (read_in-of ready).texts

module _ (w h : List ℕ) (c : State) (a : ℕ) (x : Texts w c) where
  text-size : kind (termed w c) a ≡ 1 → length (text (read_in w h c) a) ≡ (term_at w a).second
  text-size o = ap length (text-words w h c a 0 o (x.constants a o)) ∙ table-length (λ i. get_or h ((term_at w a).first + i) 0) (term_at w a).second

pub full_at : {m : Lent} {c : State} (a : ℕ) {r x : Bool} → Ready m c → r ≡ is_full (termed m.terms c) a → r ≡ x → is_full (store_of m c) a ≡ x
full_at {m} {c} a ready e f = sym (full-whole m c (texts-of ready) a) ∙ sym e ∙ f

pub letter-first : (w h : List ℕ) (c : State) (a f p r : ℕ) → Spelled w h c → is_full (termed w c) a ≡ true → f ≡ (term_at w a).first → p ≡ f → r ≡ get_or h p 0
    → text (read_in w h c) a ≡ r ∷ drop 1 (text (read_in w h c) a)
unfolding is_full
letter-first w h c a f p r x y e g d = drop-cons (text (read_in w h c) a) 0 0 long ∙ ap (λ (z : ℕ). z ∷ drop 1 (text (read_in w h c) a)) head
  where
    here : kind (termed w c) a ≡ 1
    here = eqb-true _ 1 (both_left _ _ y)

    size : 0 < (term_at w a).second
    size =
        let i = ltb-true 0 (length (text (termed w c) a)) (both_right (is_constant (termed w c) a) _ y) in
        let j = text-size w [] c a x.texts here in omega arith

    long : 0 < length (text (read_in w h c) a)
    long = let i = size in let j = text-size w h c a x.texts here in omega arith

    place : (term_at w a).first + 0 ≡ p
    place = omega arith

    head : get_or (text (read_in w h c) a) 0 0 ≡ r
    head =
        ap (λ (z : List ℕ). get_or z 0 0) (text-words w h c a 0 here (x.texts.constants a here))
        ∙ table_at_lem (λ i. get_or h ((term_at w a).first + i) 0) (term_at w a).second 0 0 size
        ∙ ap (λ (z : ℕ). get_or h z 0) place
        ∙ sym d

pub first_char : {m : Lent} {c : State} (a x : ℕ) (v : List ℕ) → Ready m c → text (store_of m c) a ≡ x ∷ v → is_char x ≡ true
unfolding all
first_char {m} {c} a x v ready e = both_left (is_char x) _ (sym (ap (all is_char) e) ∙ text-characters (store_of m c) ready.audited.recorded a)

-- THE ATOMS

right_open : (x y : Bool) → x && y ≡ false → x ≡ true → y ≡ false
right_open true y e f = e
right_open false y e f = clash f refl

module _ {m m₁ : Lent} {c : State} {o : Out (List ℕ)} (a b : ℕ) where
  pub atoms-right : (x : ℕ) (v : List ℕ) → is_full (store_of m c) b ≡ true → text (store_of m c) b ≡ x ∷ v → Working (character_atoms a x) m m₁ c o → Working (atoms_of a b) m m₁ c o
  unfolding atoms_of is_full
  atoms-right x v f e w = let i : is_constant (store_of m c) b ≡ true = both_left _ _ f in working_is (rw (i, e)) w

  pub atoms-left : HeadPair (store_of m c) a b → (x : ℕ) (v : List ℕ) → is_full (store_of m c) a ≡ true → text (store_of m c) a ≡ x ∷ v → Working (character_atoms b x) m m₁ c o → Working (atoms_of a b) m m₁ c o
  unfolding atoms_of is_full
  atoms-left p x v f e w =
      let i : is_constant (store_of m c) a ≡ true = both_left _ _ f in
      let j : is_constant (store_of m c) b ≡ false = right_open _ _ p.mixed i in
      working_is (rw (j, i, e)) w

  pub atoms-heads : is_full (store_of m c) b ≡ false → is_full (store_of m c) a ≡ false → Working (head_atoms a b) m m₁ c o → Working (atoms_of a b) m m₁ c o
  unfolding atoms_of is_full
  atoms-heads e f w = working_is (go (is_constant (store_of m c) b) (is_constant (store_of m c) a) (text (store_of m c) b) (text (store_of m c) a) e f) w
    where
      go : (p q : Bool) (u v : List ℕ) → (p && ltb 0 (length u)) ≡ false → (q && ltb 0 (length v)) ≡ false
          → (if p then atoms_by a u (head_atoms a b) else if q then atoms_by b v (head_atoms a b) else head_atoms a b) (store_of m c) ≡ head_atoms a b (store_of m c)
      go true q [] v e f = refl
      go true q (x ∷ u) v e f = clash (lt-ltb 0 (length (x ∷ u)) (omega arith)) e
      go false true u [] e f = refl
      go false true u (x ∷ v) e f = clash (lt-ltb 0 (length (x ∷ v)) (omega arith)) f
      go false false u v e f = refl

-- A NEW PAIR

-- the definition splits by the heads as they were before the key, which are as they are after it
module _ (g : ℤ) (a b : ℕ) where
  abbrev chosen : Store → Tried
  chosen s =
      if is_constant s b then split_by g a (text s b) (split_heads g a b)
      else if is_constant s a then split_by g b (text s a) (split_heads g a b)
      else split_heads g a b

  module _ (s : Store) (audited : Audited s) (left : is_string s a ≡ true) (right : is_string s b ≡ true) where
    abbrev from : List ℕ → Tried
    from = split_from g (count s)

    heads-is : split_heads g a b s ≡ (head_atoms a b >>= from) s
    heads-is = heads-counted g s audited a b left right ∙ sym (heads_then_lem from a b s)

    by_word : (v : ℕ) (u : List ℕ) → is_string s v ≡ true → all is_char u ≡ true → split_by g v u (split_heads g a b) s ≡ (atoms_by v u (head_atoms a b) >>= from) s
    unfolding all
    by_word v [] h k = heads-is
    by_word v (x ∷ u) h k = character-counted g s audited v x h (both_left (is_char x) _ k) ∙ sym (characters-then from v x s)

    chosen_by : (p q : Bool) (u v : List ℕ) → all is_char u ≡ true → all is_char v ≡ true
        → (if p then split_by g a u (split_heads g a b) else if q then split_by g b v (split_heads g a b) else split_heads g a b) s
        ≡ ((if p then atoms_by a u (head_atoms a b) else if q then atoms_by b v (head_atoms a b) else head_atoms a b) >>= from) s
    chosen_by true q u v h k = by_word a u left h
    chosen_by false true u v h k = by_word b v right k
    chosen_by false false u v h k = heads-is

    chosen_is : chosen s s ≡ (atoms_of a b >>= from) s
    unfolding atoms_of
    chosen_is = chosen_by (is_constant s b) (is_constant s a) (text s b) (text s a) (text-characters s audited.recorded b) (text-characters s audited.recorded a)

  new_is : (s : Store) → Audited s → HeadPair s a b → (add_key a b >> chosen s) s ≡ split_new g a b s
  unfolding split_new
  new_is s d p = then_same _ _ (add_key a b s) (λ s₁ u e. let k = key_kept a b s s₁ d p.left p.right p.apart e in at s₁ k.is k.audited)
    where
      at : (s₁ : Store) → s₁ ≡ with_keys s (s.keys ++ (ordered a b ∷ [])) → Audited s₁ → chosen s s₁ ≡ (atoms_of a b >>= split_from g (count s₁)) s₁
      at s₁ q k = subst (λ (x : Store). chosen s x ≡ (atoms_of a b >>= split_from g (count x)) x) (sym q) (chosen_is (with_keys s (s.keys ++ (ordered a b ∷ []))) (subst Audited q k) p.left p.right)

module _ {m m₁ : Lent} {c : State} (g : ℤ) (a b : ℕ) where
  pub new-stop : {k : ℕ} → Working (add_key a b) m m₁ c (stop k) → Working (split_new g a b) m m₁ c (stop k)
  unfolding split_new
  new-stop w = working_stop {w = add_key a b} (λ u s. (atoms_of a b >>= split_from g (count s)) s) w

  module _ (d : State) (w : Working (add_key a b) m m₁ c (ok (store_of m₁ d) tt)) where
    pub new-pair : Ready m c → HeadPair (store_of m c) a b → HeadPair (store_of m₁ d) a b
    new-pair ready p =
        let k = key_kept a b (store_of m c) (store_of m₁ d) ready.audited p.left p.right p.apart w.says in
        subst (λ (s : Store). HeadPair s a b) (sym k.is) (record { left = p.left; right = p.right; apart = p.apart; mixed = p.mixed })

    -- what follows the key
    pub after_key : {m₂ : Lent} {o : Out (List ℕ)} → Working (atoms_of a b) m₁ m₂ d o → Working (split_new g a b) m m₂ c (and_then (split_from g (count (store_of m₁ d))) o)
    unfolding split_new split_from
    after_key w₂ =
        working_then {w = add_key a b} (λ u s. (atoms_of a b >>= split_from g (count s)) s) d tt (grows_key a b) w
        (working_is refl (working_answer (split_from g (count (store_of m₁ d))) (λ l s s' x i. one_store i) w₂))

    module _ {m₂ : Lent} {l : List ℕ} (d₂ : State) (w₂ : Working (atoms_of a b) m₁ m₂ d (ok (store_of m₂ d₂) l)) where
      pub new-done : {j : ℕ} {z : ℤ} → z ≡ neg_ℤ g → j ≡ d₂.terms - d.terms → Working (split_new g a b) m m₂ c (ok (store_of m₂ d₂) (some (split l z j)))
      unfolding split_from
      new-done {j} {z} p q =
          let t₁ = table-length (λ i. term_at m₁.terms (suc i)) d.terms in
          let t₂ = table-length (λ i. term_at m₂.terms (suc i)) d₂.terms in
          let e : count (store_of m₂ d₂) - count (store_of m₁ d) ≡ j = omega arith in
          rw (p, sym e) (after_key w₂)

      -- no term is taken away, and at most nine are made
      pub new-below : d.terms ≤ d₂.terms
      new-below = (higher-below m₁ m₂ d d₂ ((grows-atoms a b).higher (store_of m₁ d) (store_of m₂ d₂) l w₂.says)).terms

      pub new-small : Ready m₁ d → HeadPair (store_of m₁ d) a b → d₂.terms - d.terms ≤ 9
      unfolding split_from
      new-small ready p =
          let t₁ = table-length (λ i. term_at m₁.terms (suc i)) d.terms in
          let t₂ = table-length (λ i. term_at m₂.terms (suc i)) d₂.terms in
          let e = chosen_is g a b (store_of m₁ d) ready.audited p.left p.right ∙ ap (and_then (split_from g (count (store_of m₁ d)))) w₂.says in
          let h = ((chosen-few g a b (store_of m₁ d) (store_of m₁ d)).given (store_of m₂ d₂) (some (split l (neg_ℤ g) (count (store_of m₂ d₂) - count (store_of m₁ d)))) e).2 in
          omega arith

-- THE HEADS

abbrev differs : Store → ℕ → ℕ → Bool
differs s a b = is_constant s a && is_constant s b && differ (text s a) (text s b)

module _ {m : Lent} {c : State} (ready : Ready m c) (g : ℤ) (x : Bool) where
  pub left-none : (l r : List ℕ) → length l ≡ 0 → Working (clashes l r or_else splits g x l r) m m c (ok (store_of m c) none)
  unfolding clashes splits
  left-none [] r e = working_same ready refl
  left-none (a ∷ l) r e = absurd (omega arith)

  pub right-none : (l r : List ℕ) → length r ≡ 0 → Working (clashes l r or_else splits g x l r) m m c (ok (store_of m c) none)
  unfolding clashes splits
  right-none [] [] e = working_same ready refl
  right-none (a ∷ l) [] e = working_same ready refl
  right-none l (b ∷ r) e = absurd (omega arith)

  pub heads_clash : (l r : List ℕ) → (length l ≡ 0 → ⊥) → (length r ≡ 0 → ⊥) → differs (store_of m c) (get_or l 0 0) (get_or r 0 0) ≡ true
      → Working (clashes l r or_else splits g x l r) m m c (ok (store_of m c) (some conflict))
  unfolding clashes
  heads_clash [] r p q e = absurd (p refl)
  heads_clash (a ∷ l) [] p q e = absurd (q refl)
  heads_clash (a ∷ l) (b ∷ r) p q e = working_same ready (rw e)

  pub heads-constant : (l r : List ℕ) → (length l ≡ 0 → ⊥) → (length r ≡ 0 → ⊥) → differs (store_of m c) (get_or l 0 0) (get_or r 0 0) ≡ false
      → (is_constant (store_of m c) (get_or l 0 0) && is_constant (store_of m c) (get_or r 0 0)) ≡ true → Working (clashes l r or_else splits g x l r) m m c (ok (store_of m c) none)
  unfolding clashes splits
  heads-constant [] r p q e f = absurd (p refl)
  heads-constant (a ∷ l) [] p q e f = absurd (q refl)
  heads-constant (a ∷ l) (b ∷ r) p q e f = working_same ready (rw (e, f))

  -- where one head at most is a constant
  module _ (l r : List ℕ) (p : length l ≡ 0 → ⊥) (q : length r ≡ 0 → ⊥) (e : differs (store_of m c) (get_or l 0 0) (get_or r 0 0) ≡ false)
      (f : (is_constant (store_of m c) (get_or l 0 0) && is_constant (store_of m c) (get_or r 0 0)) ≡ false) where
    pub heads-saturated : (x || is_key (store_of m c) (get_or l 0 0) (get_or r 0 0)) ≡ true → Working (clashes l r or_else splits g x l r) m m c (ok (store_of m c) (some saturated))
    unfolding clashes splits
    heads-saturated h = go l r p q e f h
      where
        go : (l r : List ℕ) → (length l ≡ 0 → ⊥) → (length r ≡ 0 → ⊥) → differs (store_of m c) (get_or l 0 0) (get_or r 0 0) ≡ false
            → (is_constant (store_of m c) (get_or l 0 0) && is_constant (store_of m c) (get_or r 0 0)) ≡ false
            → (x || is_key (store_of m c) (get_or l 0 0) (get_or r 0 0)) ≡ true → Working (clashes l r or_else splits g x l r) m m c (ok (store_of m c) (some saturated))
        go [] r p q e f h = absurd (p refl)
        go (a ∷ l) [] p q e f h = absurd (q refl)
        go (a ∷ l) (b ∷ r) p q e f h = working_same ready (rw (e, f, h))

    pub heads-new : HeadPair (store_of m c) (get_or l 0 0) (get_or r 0 0) → (x || is_key (store_of m c) (get_or l 0 0) (get_or r 0 0)) ≡ false → {m₁ : Lent} {o : Out (Option Answer)} {g₁ : ℤ} → g₁ ≡ g
        → Working (split_new g₁ (get_or l 0 0) (get_or r 0 0)) m m₁ c o → Working (clashes l r or_else splits g x l r) m m₁ c o
    unfolding clashes splits
    heads-new pair h {m₁} {o} i w = go l r p q e f pair h (subst (λ (z : ℤ). Working (split_new z (get_or l 0 0) (get_or r 0 0)) m m₁ c o) i w)
      where
        go : (l r : List ℕ) → (length l ≡ 0 → ⊥) → (length r ≡ 0 → ⊥) → differs (store_of m c) (get_or l 0 0) (get_or r 0 0) ≡ false
            → (is_constant (store_of m c) (get_or l 0 0) && is_constant (store_of m c) (get_or r 0 0)) ≡ false → HeadPair (store_of m c) (get_or l 0 0) (get_or r 0 0)
            → (x || is_key (store_of m c) (get_or l 0 0) (get_or r 0 0)) ≡ false → Working (split_new g (get_or l 0 0) (get_or r 0 0)) m m₁ c o → Working (clashes l r or_else splits g x l r) m m₁ c o
        go [] r p q e f y h w = absurd (p refl)
        go (a ∷ l) [] p q e f y h w = absurd (q refl)
        go (a ∷ l) (b ∷ r) p q e f y h w = working_is (rw (e, f, h) (new_is g a b (store_of m c) ready.audited y)) w

-- the heads that step 1 leaves
pub heads-apart : (l r : List ℕ) → Apart l r → HeadsApart l r
heads-apart [] r h = record { apart = λ p q e. absurd (omega arith) }
heads-apart (a ∷ l) [] h = record { apart = λ p q e. absurd (omega arith) }
heads-apart (a ∷ l) (b ∷ r) h = record { apart = λ p q e. h e }

some-there : (l : List ℕ) → (length l ≡ 0 → ⊥) → 0 < length l
some-there [] n = absurd (n refl)
some-there (a ∷ l) n = omega arith

pub pair_of : (s : Store) (l r : List ℕ) → BothLists s l r → HeadsApart l r → (length l ≡ 0 → ⊥) → (length r ≡ 0 → ⊥) → (is_constant s (get_or l 0 0) && is_constant s (get_or r 0 0)) ≡ false
    → HeadPair s (get_or l 0 0) (get_or r 0 0)
unfolding all
pair_of s l r b d p q e = record { left = head l p b.left; right = head r q b.right; apart = d.apart (some-there l p) (some-there r q); mixed = e }
  where
    head : (l : List ℕ) → (length l ≡ 0 → ⊥) → is_list s l ≡ true → is_string s (get_or l 0 0) ≡ true
    head [] n h = absurd (n refl)
    head (a ∷ l) n h = both_left (is_string s a) _ (both_right (leb (length (a ∷ l)) list_limit) _ h)

-- the key test reads the store's keys
pub key_read : (m : Lent) (c : State) (a b : ℕ) {x r z : Bool} → r ≡ any (same_pair (ordered a b)) (pairs_view m.keys c.keys) → x ≡ false → r ≡ z → (x || is_key (store_of m c) a b) ≡ z
unfolding is_key
key_read m c a b e f h = rw f (sym e ∙ h)
