-- One repeated field: what holds of its sides, what step 1 leaves of them, and a word that fills the label.
use Rattle.std.specs.Prelude.{if◌then◌else◌}
use mathlib.Core.Path.{◌≡◌, refl, sym, ap, subst, ◌∙◌}
use mathlib.Core.Bool.{Bool, true, false, not, ◌&&◌, ◌||◌}
use mathlib.Core.List.{List, [], ◌++◌, reverse}
use mathlib.Core.Logic.{◌⊎◌, inl, inr, ⊎_elim}
use Prim.Native.Nat.{ℕ, suc, ◌≤◌}
use native.Mathlib.Decide.{dec_le}
use native.Mathlib.Omega.{arith}
use lib.ListN.{length, drop}
use lib.Dec.{eqb}
use borrow.Author.Tests.{eqb-true, eq-eqb, ne_eqb, not-true}
use Rattle.records.specs.Lists.{all, any, concat_map, is_in, firsts, seconds, Every, none_left, and}
use Rattle.records.specs.Store.{Term, Store, ok, and_then, give, count, kind, is_term, is_constant, text, root, same_class}
use Rattle.records.specs.Rules.{is_char}
use Rattle.records.specs.Meaning.{Words, Reading}
use Rattle.records.specs.Working.Audited.{Audited}
use Rattle.records.proofs.Lists.{both_true, either, or_right, clash, decide, within_low, within-high, within-is, any_append, concat_map-append, all_every, every_all, every_map, every_both, every_append, every_left, every_right, every_mem, every_firsts, firsts_every, seconds_every}
use Rattle.records.proofs.Climbs.{root-self, root-term, rule_at}
use Rattle.records.proofs.Rises.{is_in_lem}
use Rattle.records.proofs.Grown.{Grown, grown-kind, kind-term, Strings}
use Rattle.records.proofs.Append
use Rattle.records.proofs.Extend.{kept_grown}
use Rattle.records.proofs.Kept.{Appends, found, one_term_more, after_names, ConstantMade, names-audited}
use Rattle.records.proofs.Readings.{words_of, reading_exists, reading-variables}
use Rattle.engine.specs.Explain.{explain}
use Rattle.sides.specs.Wordeq.{same, fixed, letters, filled, same_heads, same_tails, rest, explain_match, explain_matches, strip, variables}
use Rattle.sides.specs.Repeated.{OneField, Word}
use Rattle.sides.proofs.Words
use Rattle.sides.proofs.Words.{Alike, alike_concat_map, alike_reverse, fill_is}
use Rattle.sides.proofs.Strip.{same_word_lem, Off, heads_off, tails_off, turned_left, turned_right, front-back, every_back}
use Rattle.sides.proofs.Tile.{every_kept, kept_every, kept-pass, fixed_word}

-- FOUND IN A LIST

in_every : {P : ℕ → Type 0} (v : ℕ) {l : List ℕ} → Every P l → is_in v l ≡ true → P v
in_every v {l} k e = every_mem k (is_in_lem v l e)

-- A TERM THAT IS MADE

-- it is in no class of a term that was alone
apart-made : {s s' : Store} (v e : ℕ) → Appends s s' → Audited s → is_term s v ≡ true → ((t : ℕ) → is_term s t ≡ true → root s t ≡ root s v → t ≡ v)
    → is_term s' e ≡ true → (e ≡ v → ⊥) → root s' e ≡ root s' v → ⊥
apart-made v e found d wv f w n q = n (f e w q)
apart-made v e (one_term_more {s} {ds} {hs} {k} {a} {b} more new) d wv f w n q = go (dec_le e (count s))
  where
    grew : Store
    grew = Append.grow s ds hs k a b

    g : Grown s grew
    g = kept_grown s ds hs k a b d more new

    low : root grew v ≤ count s
    low = subst (λ (r : ℕ). r ≤ count s) (sym (g.roots v wv)) (within-high (count s) (root s v) (root-term s d.classed v wv))

    high : (e ≤ count s → ⊥) → e ≡ suc (count s)
    high h = let i = within-high _ e w in let l = Append.longer s ds hs k a b in omega arith

    own_root : e ≡ suc (count s) → root grew e ≡ suc (count s)
    own_root i = ap (root grew) i ∙ root-self grew.terms (suc (count s)) (ap (λ (x : Term). x.class_parent) (Append.new_term s ds hs k a b))

    go : Dec (e ≤ count s) → ⊥
    go (yes h) = let i = within-is (count s) e (within_low _ e w) h in n (f e i (sym (g.roots e i) ∙ q ∙ g.roots v wv))
    go (no h) = let i = own_root (high h) in let l = low in omega arith
apart-made v e (after_names {s} m p) d wv f w n q = apart-made v e p (names-audited s m d) wv f w n q

-- THE SIDES

abbrev pub Constant : Store → ℕ → Type 0
Constant s a = is_constant s a ≡ true

-- a constant or the field
abbrev pub Entry : Store → ℕ → ℕ → Type 0
Entry s v a = Constant s a ⊎ (a ≡ v)

-- a side of constants, and a label of constants and the field
pub record Sides (s : Store) (v : ℕ) (c m : List ℕ) : Type 0 where
  pub constants : Every (Constant s) c
  pub entries : Every (Entry s v) m
  pub occurs : is_in v m ≡ true

-- a variable that is in no other term's class
pub record Lone (s : Store) (v : ℕ) : Type 0 where
  pub variable : kind s v ≡ 2
  pub alone : (t : ℕ) → is_term s t ≡ true → root s t ≡ root s v → t ≡ v

module _ {s : Store} {v : ℕ} {c m : List ℕ} (f : OneField s v c m) where
  pub field_lone : Lone s v
  field_lone = record {
    variable = eqb-true _ _ f.variable;
    alone = λ t w e. ⊎_elim (λ h. eqb-true t v h) (λ h. clash h (ap not (eq-eqb (root s t) (root s v) e))) (either (eqb t v) _ (rule_at s (λ t. eqb t v || not (same_class s t v)) f.alone t w));
  }

  pub field_sides : Sides s v c m
  field_sides = record {
    constants = all_every (is_constant s) c f.constants;
    entries = every_map (λ t e. ⊎_elim inl (λ h. inr (eqb-true t v h)) (either (is_constant s t) (eqb t v) e)) (all_every (λ t. is_constant s t || eqb t v) m f.entries);
    occurs = f.occurs;
  }

module _ {s : Store} {v : ℕ} (lone : Lone s v) where
  pub field_varies : is_constant s v ≡ false
  field_varies = let k = lone.variable in rw k

  constant-other : (a : ℕ) → Constant s a → a ≡ v → ⊥
  constant-other a e i = clash e (ap (is_constant s) i ∙ field_varies)

  -- a constant is of another class
  pub constant-apart : (a : ℕ) → Constant s a → root s a ≡ root s v → ⊥
  constant-apart a e i = constant-other a e (lone.alone a (kind-term s a 0 (eqb-true _ _ e)) i)

  pub left-apart : (a : ℕ) → Constant s a → same_class s a v ≡ false
  left-apart a e = ne_eqb _ _ (constant-apart a e)

  -- and not the same
  left-unlike : (a : ℕ) → Constant s a → same s a v ≡ false
  unfolding same
  left-unlike a e = rw (ne_eqb a v (constant-other a e), e, field_varies) (left-apart a e)

  right-unlike : (a : ℕ) → Constant s a → same s v a ≡ false
  unfolding same
  right-unlike a e = rw (ne_eqb v a (λ i. constant-other a e (sym i)), field_varies) (ne_eqb _ _ (λ i. constant-apart a e (sym i)))

  -- so that of two entries, of which one is a constant, both are constants where they are the same
  same-constants : (a b : ℕ) → Entry s v a → Entry s v b → Constant s a ⊎ Constant s b → same s a b ≡ true → Constant s a × Constant s b
  same-constants a b (inl p) (inl q) h e = (p, q)
  same-constants a b (inl p) (inr q) h e = clash (ap (same s a) (sym q) ∙ e) (left-unlike a p)
  same-constants a b (inr p) (inl q) h e = clash (ap (λ (x : ℕ). same s x b) (sym p) ∙ e) (right-unlike b q)
  same-constants a b (inr p) (inr q) h e = absurd (⊎_elim (λ k. constant-other a k p) (λ k. constant-other b k q) h)

  -- a constant that is made is not the same as the field
  pub made-unlike : {w : List ℕ} {s' : Store} {e : ℕ} → Audited s → ConstantMade w s s' e → same s' v e ≡ false
  unfolding same
  made-unlike {s' = s'} {e = e} d m =
      let k = grown-kind m.made.grown v 1 lone.variable in
      let j = m.made.kind_is in
      let n : v ≡ e → ⊥ = λ i. other k j i in
      rw (ne_eqb v e n, k)
      (ne_eqb _ _ (λ i. apart-made v e m.made.appends d (kind-term s v 1 lone.variable) lone.alone (kind-term s' e 0 j) (λ z. n (sym z)) (sym i)))
    where
      other : kind s' v ≡ 2 → kind s' e ≡ 1 → v ≡ e → ⊥
      other k j i = let z : ◌≡◌ {A = ℕ} 2 1 = sym k ∙ ap (kind s') i ∙ j in omega arith

-- the label's variables are the field, and it has one
module _ {s : Store} {v : ℕ} {c m : List ℕ} (lone : Lone s v) (h : Sides s v c m) where
  pub field_alone : Every (λ u. u ≡ v) (variables s m)
  field_alone =
      every_map (λ u p. ⊎_elim (λ k. clash k (not-true _ p.1)) (λ k. k) p.0)
      (every_both (kept_every (λ a. not (is_constant s a)) h.entries) (kept-pass (λ a. not (is_constant s a)) m))

  pub field_there : variables s m ≡ [] → ⊥
  field_there e =
      in_every {P = λ a. not (is_constant s a) ≡ true → ⊥} v (every_kept _ (λ a. ⊥) m (subst (Every (λ a. ⊥)) (sym e) none_left)) h.occurs (ap not (field_varies lone))

  -- the label is no side of constants
  pub label_varies : fixed s m ≡ false
  unfolding fixed
  label_varies = decide (fixed s m) (λ e. clash (in_every {P = Constant s} v (all_every (is_constant s) m e) h.occurs) (field_varies lone)) (λ e. e)

  pub side_fixed : fixed s c ≡ true
  unfolding fixed
  side_fixed = every_all h.constants

  -- A WORD

  -- a word of characters that fills the label
  pub filling : Audited s → (u : List ℕ) → all is_char u ≡ true → filled s u m ≡ letters s c → Word s c m
  unfolding filled
  filling d u good e = record { words = w; reading = reading; equal = fixed_word s w c reading side_fixed ∙ sym e ∙ sym (fill_is (is_constant s) (text s) w u (λ a i. reading.constants a (eqb-true _ _ i)) words) }
    where
      w : Words
      w = words_of s (λ t. u)

      reading : Reading s w
      reading = reading_exists s (λ t. u) d.recorded (λ t. good)

      words : Every (λ a. not (is_constant s a) ≡ true → w a ≡ u) m
      words = every_map (λ a p n. ⊎_elim (λ k. clash k (not-true _ n)) (λ k. ap w k ∙ reading-variables s (λ t. u) d.recorded v lone.variable) p) h.entries

-- STEP 1

-- a list that has constants before and after what is left of it
record Framed (s : Store) (l l₂ : List ℕ) : Type 0 where
  front : List ℕ
  back : List ℕ
  is : l ≡ front ++ (l₂ ++ back)
  before : Every (Constant s) front
  behind : Every (Constant s) back

-- without its heads, and then without its tails, which are taken from the end
framed_by : {s : Store} {l l₁ l₂ front tails : List ℕ} → l ≡ front ++ l₁ → l₁ ≡ l₂ ++ reverse tails → Every (Constant s) front → Every (Constant s) tails → Framed s l l₂
framed_by {front = front} {tails = tails} p q h k = record { front = front; back = reverse tails; is = p ∙ ap (λ (x : List ℕ). front ++ x) q; before = h; behind = every_back 0 tails k }

module _ {s : Store} {l l₂ : List ℕ} (f : Framed s l l₂) where
  framed_every : {P : ℕ → Type 0} → Every P l → Every P l₂
  framed_every {P} k = every_left l₂ f.back (every_right f.front (l₂ ++ f.back) (subst (Every P) f.is k))

  framed_in : (v : ℕ) → is_constant s v ≡ false → is_in v l ≡ true → is_in v l₂ ≡ true
  unfolding is_in
  framed_in v n e =
      ⊎_elim (λ h. clash (in_every {P = Constant s} v f.before h) n)
      (λ h. ⊎_elim (λ k. k) (λ k. clash (in_every {P = Constant s} v f.behind k) n) (either _ _ (sym (any_append (eqb v) l₂ f.back) ∙ h)))
      (either _ _ (sym (any_append (eqb v) f.front (l₂ ++ f.back)) ∙ ap (any (eqb v)) (sym f.is) ∙ e))

-- what step 1 leaves: it explains nothing, and the sides are equal exactly where what is left of them is
pub record Reduced (s : Store) (l r l₂ r₂ : List ℕ) : Type 0 where
  pub strips : strip l r s ≡ ok s (l₂, r₂)
  left : Framed s l l₂
  right : Framed s r r₂
  pub down : (w : Words) → Reading s w → concat_map w l ≡ concat_map w r → concat_map w l₂ ≡ concat_map w r₂
  pub up : (w : Words) → Reading s w → concat_map w l₂ ≡ concat_map w r₂ → concat_map w l ≡ concat_map w r

-- two constants that are the same
record Plain (s : Store) (p : ℕ × ℕ) : Type 0 where
  one : Constant s p.0
  other : Constant s p.1
  alike : same s p.0 p.1 ≡ true

plain-explained : (s : Store) {ps : List (ℕ × ℕ)} → Every (Plain s) ps → explain_matches ps s ≡ ok s tt
unfolding explain_matches explain_match
plain-explained s none_left = refl
plain-explained s (and {a} {l} h k) = go (plain-explained s k) (eqb a.0 a.1)
  where
    go : explain_matches l s ≡ ok s tt → (b : Bool) → and_then (λ (u : Unit {0}). explain_matches l) ((if b || (is_constant s a.0 && is_constant s a.1) then give tt else explain a.0 a.1) s) ≡ ok s tt
    go ih true = ih
    go ih false = rw (h.one, h.other) ih

plain-alike : (s : Store) (w : Words) → Reading s w → {ps : List (ℕ × ℕ)} → Every (Plain s) ps → Alike w (firsts ps) (seconds ps)
unfolding firsts seconds
plain-alike s w rd none_left = Words.Alike.nothing
plain-alike s w rd (and {a} h k) = Words.Alike.pair (same_word_lem s a.0 a.1 h.alike (or_right (eqb a.0 a.1) _ (both_true _ _ h.one h.other)) w rd) (plain-alike s w rd k)

plain-firsts : (s : Store) {ps : List (ℕ × ℕ)} → Every (Plain s) ps → Every (Constant s) (firsts ps)
plain-firsts s = every_firsts (λ p h. h.one)

plain-seconds : (s : Store) {ps : List (ℕ × ℕ)} → Every (Plain s) ps → Every (Constant s) (seconds ps)
unfolding seconds
plain-seconds s none_left = none_left
plain-seconds s (and h k) = and h.other (plain-seconds s k)

module _ {s : Store} {v : ℕ} (lone : Lone s v) where
  -- one of the lists is of constants, so each match is of two constants
  off_plain : {l r : List ℕ} {ps : List (ℕ × ℕ)} → Off s l r ps → Every (Entry s v) l → Every (Entry s v) r → Every (Constant s) l ⊎ Every (Constant s) r → Every (Plain s) ps
  off_plain {l} {r} {ps} o hl hr one =
      every_map (λ p h. (let c = same-constants lone p.0 p.1 h.0.0 h.0.1 h.1.0 h.1.1.alike in record { one = c.0; other = c.1; alike = h.1.1.alike }))
      (every_both (every_both (lefts hl) (rights hr)) (every_both (⊎_elim (λ k. every_map (λ p h. inl h) (lefts k)) (λ k. every_map (λ p h. inr h) (rights k)) one) o.matched))
    where
      lefts : {P : ℕ → Type 0} → Every P l → Every (λ p. P p.0) ps
      lefts {P} k = firsts_every ps (every_left (firsts ps) (drop (length ps) l) (subst (Every P) o.left k))

      rights : {P : ℕ → Type 0} → Every P r → Every (λ p. P p.1) ps
      rights {P} k = seconds_every ps (every_left (seconds ps) (drop (length ps) r) (subst (Every P) o.right k))

  module _ (l r : List ℕ) (sl : Strings s l) (sr : Strings s r) (hl : Every (Entry s v) l) (hr : Every (Entry s v) r) (one : Every (Constant s) l ⊎ Every (Constant s) r) where
    abbrev heads : List (ℕ × ℕ)
    heads = same_heads s l r

    abbrev tails : List (ℕ × ℕ)
    tails = same_tails s (length heads) l r

    plain-heads : Every (Plain s) heads
    plain-heads = off_plain (heads_off s l r sl sr) hl hr one

    plain-tails : Every (Plain s) tails
    plain-tails =
        off_plain (tails_off s l r sl sr) (every_back (length heads) l hl) (every_back (length heads) r hr)
        (⊎_elim (λ k. inl (every_back (length heads) l k)) (λ k. inr (every_back (length heads) r k)) one)

    abbrev l₂ : List ℕ
    l₂ = (rest s l r).0

    abbrev r₂ : List ℕ
    r₂ = (rest s l r).1

    left_framed : Framed s l l₂
    unfolding rest
    left_framed = framed_by (heads_off s l r sl sr).left (turned_left s l r sl sr) (plain-firsts s plain-heads) (plain-firsts s plain-tails)

    right_framed : Framed s r r₂
    unfolding rest
    right_framed = framed_by (heads_off s l r sl sr).right (turned_right s l r sl sr) (plain-seconds s plain-heads) (plain-seconds s plain-tails)

    -- the words of a framed list
    framed_word : (w : Words) {l l₂ : List ℕ} (f : Framed s l l₂) → concat_map w l ≡ concat_map w f.front ++ (concat_map w l₂ ++ concat_map w f.back)
    framed_word w {l} {l₂} f =
        ap (concat_map w) f.is ∙ concat_map-append w f.front (l₂ ++ f.back) ∙ ap (λ (x : List ℕ). concat_map w f.front ++ x) (concat_map-append w l₂ f.back)

    pub strip_reduced : Reduced s l r l₂ r₂
    unfolding strip rest left_framed right_framed framed_by
    strip_reduced = record {
      strips = ap (and_then (λ (u : Unit {0}). give (rest s l r))) (plain-explained s (every_append plain-heads plain-tails));
      left = left_framed;
      right = right_framed;
      down = λ w rd e. front-back s l r sl sr w (plain-alike s w rd plain-heads) (plain-alike s w rd plain-tails) e;
      up = λ w rd e.
          let p = alike_concat_map w (plain-alike s w rd plain-heads) in
          let q = alike_concat_map w (alike_reverse w (plain-alike s w rd plain-tails)) in
          framed_word w left_framed ∙ whole p e q ∙ sym (framed_word w right_framed);
    }
      where
        whole : {a b c a' b' c' : List ℕ} → a ≡ a' → b ≡ b' → c ≡ c' → a ++ (b ++ c) ≡ a' ++ (b' ++ c')
        whole p q r = cc

  -- the sides that it leaves
  pub reduced_sides : {c m c₂ m₂ : List ℕ} → Reduced s c m c₂ m₂ → Sides s v c m → Sides s v c₂ m₂
  reduced_sides r h = record { constants = framed_every r.left h.constants; entries = framed_every r.right h.entries; occurs = framed_in r.right v (field_varies lone) h.occurs }

  pub reduced_turned : {c m c₂ m₂ : List ℕ} → Reduced s m c m₂ c₂ → Sides s v c m → Sides s v c₂ m₂
  reduced_turned r h = record { constants = framed_every r.right h.constants; entries = framed_every r.left h.entries; occurs = framed_in r.left v (field_varies lone) h.occurs }
