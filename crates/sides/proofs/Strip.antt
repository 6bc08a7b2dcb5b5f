-- Step 1: what is stripped from one side has the words of what is stripped from the other, and the heads left are two terms.
use Rattle.std.specs.Prelude.{if◌then◌else◌}
use mathlib.Core.Path.{◌≡◌, refl, sym, ap, subst, ◌∙◌}
use mathlib.Core.Bool.{Bool, true, false, ◌&&◌, ◌||◌}
use mathlib.Core.List.{List, [], ◌∷◌, ◌++◌, reverse}
use Prim.Native.Nat.{ℕ}
use lib.ListN.{length, take, drop, take-append-drop}
use lib.Dec.{eqb}
use borrow.Author.Tests.{eqb-true, eq-eqb}
use Rattle.records.specs.Lists.{any, concat_map, same_word, firsts, seconds, Every, none_left, and}
use Rattle.records.specs.Store.{Store, Out, ok, stop, and_then, give, is_constant, is_string, text, same_class}
use Rattle.records.specs.Make.{with_reasons}
use Rattle.records.specs.Meaning.{Words, Reading}
use Rattle.records.specs.Working.Audited.{Audited}
use Rattle.records.proofs.Lists.{word_is, clash, every_append, every_left, every_right, every_map}
use Rattle.records.proofs.Outcomes.{ends-give, ends-map, ends_if, ends-then}
use Rattle.records.proofs.Grown.{Strings, strings-later}
use Rattle.engine.specs.Explain.{explain, is_reasoned}
use Rattle.engine.proofs.Sound.{unreasoned}
use Rattle.sides.specs.Wordeq.{same, explain_match, needs_reason, strip, same_heads, same_tails, matches, rest, explain_matches}
use Rattle.records.proofs.LaterStores.{Added}
use Rattle.sides.proofs.Words
use Rattle.sides.proofs.Words.{Alike, alike_reverse, cancel_front, cancel_back, unturn}
use Rattle.sides.proofs.FrontOrEnd.{every_reverse}
use Rattle.sides.proofs.StepOutcomes.{Ends}
use Rattle.sides.proofs.Cited.{Cited, cited-none, cited-then, explain-ends, Full, full-ok, full_if, full-then, explain-full}

-- SAME

-- the test by which a match needs no reason
abbrev pub plainly : Store → ℕ → ℕ → Bool
plainly s a b = eqb a b || (is_constant s a && is_constant s b)

module _ (s : Store) (a b : ℕ) where
  pub same_word_lem : same s a b ≡ true → plainly s a b ≡ true → (w : Words) → Reading s w → w a ≡ w b
  unfolding same
  same_word_lem e f w rd = go (eqb a b) refl (is_constant s a) refl (is_constant s b) refl e f
    where
      go : (x : Bool) → eqb a b ≡ x → (y : Bool) → is_constant s a ≡ y → (z : Bool) → is_constant s b ≡ z
          → x || (if y && z then same_word (text s a) (text s b) else same_class s a b) ≡ true → x || (y && z) ≡ true → w a ≡ w b
      go true p y q z r e f = ap w (eqb-true a b p)
      go false p true q true r e f = rd.constants a (eqb-true _ _ q) ∙ word_is _ _ e ∙ sym (rd.constants b (eqb-true _ _ r))
      go false p true q false r e f = clash f refl
      go false p false q z r e f = clash f refl

  pub same_class_lem : same s a b ≡ true → plainly s a b ≡ false → same_class s a b ≡ true
  unfolding same
  same_class_lem e f = go (eqb a b) (is_constant s a && is_constant s b) e f
    where
      go : (x y : Bool) → x || (if y then same_word (text s a) (text s b) else same_class s a b) ≡ true → x || y ≡ false → same_class s a b ≡ true
      go true y e f = clash refl f
      go false true e f = clash refl f
      go false false e f = e

  -- a number is the same as itself
  pub same_self : a ≡ b → same s a b ≡ true
  unfolding same
  same_self e = rw e (go (eqb b b) (eq-eqb b b refl))
    where
      go : (x : Bool) → x ≡ true → x || (if is_constant s b && is_constant s b then same_word (text s b) (text s b) else same_class s b b) ≡ true
      go true q = refl
      go false q = clash q refl

-- what is the same stays so when reasons are added
pub same-added : {s s' : Store} → Added s s' → (a b : ℕ) → same s' a b ≡ same s a b
unfolding same
same-added x a b = ap (λ (s : Store). same s a b) x.is

pub match_ends : (a b : ℕ) (s : Store) → Audited s → is_string s a ≡ true → is_string s b ≡ true → same s a b ≡ true → Ends (λ s' u. Cited (λ w. w a ≡ w b) s s') (explain_match a b s)
unfolding explain_match
match_ends a b s d p q e =
    ends_if (plainly s a b) _ _ (λ f. ends-give (cited-none s d (same_word_lem s a b e f))) (λ f. explain-ends a b s d p q (same_class_lem s a b e f))

-- MATCHES EXPLAINED

-- two string terms that are the same
pub record Match (s : Store) (p : ℕ × ℕ) : Type 0 where
  pub one : is_string s p.0 ≡ true
  pub other : is_string s p.1 ≡ true
  pub alike : same s p.0 p.1 ≡ true

-- so does a match
match_later : {s s' : Store} {p : ℕ × ℕ} → Added s s' → Match s p → Match s' p
unfolding same
match_later {s} {p = p} a m = subst (λ (x : Store). Match x p) (sym a.is) (beside (s.reasons ++ a.more))
  where
    beside : (rs : List (ℕ × ℕ)) → Match (with_reasons s rs) p
    beside rs = record { one = m.one; other = m.other; alike = m.alike }

pub matches-append : (l m : List (ℕ × ℕ)) (s : Store) → explain_matches (l ++ m) s ≡ and_then (λ u. explain_matches m) (explain_matches l s)
unfolding explain_matches
matches-append [] m s = refl
matches-append (p ∷ l) m s = go (matches-append l m) (explain_match p.0 p.1 s)
  where
    go : ((s₁ : Store) → explain_matches (l ++ m) s₁ ≡ and_then (λ u. explain_matches m) (explain_matches l s₁))
        → (o : Out (Unit {0})) → and_then (λ u. explain_matches (l ++ m)) o ≡ and_then (λ u. explain_matches m) (and_then (λ u. explain_matches l) o)
    go ih (ok s₁ u) = ih s₁
    go ih (stop n) = refl

pub matches-end : (l : List (ℕ × ℕ)) (s : Store) → Audited s → Every (Match s) l → Ends (λ s' u. Cited (λ w. Alike w (firsts l) (seconds l)) s s') (explain_matches l s)
unfolding explain_matches firsts seconds
matches-end [] s d none_left = ends-give (cited-none s d (λ w rd. Words.Alike.nothing))
matches-end (p ∷ l) s d (and m k) =
    ends-then _ _ (match_ends p.0 p.1 s d m.one m.other m.alike)
    (λ s₁ u c. ends-map (λ s' v q. cited-then (λ w e x. Words.Alike.pair e x) c q) (matches-end l s₁ c.audited (every_map (λ q. match_later c.added) k)))

match_full : (p : ℕ × ℕ) (s : Store) → Audited s → Match s p → Full (explain_match p.0 p.1 s)
unfolding explain_match
match_full p s d m =
    full_if (plainly s p.0 p.1) _ _ (λ f. full-ok) (λ f. explain-full p.0 p.1 s d m.one m.other (same_class_lem s p.0 p.1 m.alike f))

matches-full : (l : List (ℕ × ℕ)) (s : Store) → Audited s → Every (Match s) l → Full (explain_matches l s)
unfolding explain_matches
matches-full [] s d none_left = full-ok
matches-full (p ∷ l) s d (and m k) =
    full-then _ _ (match_full p s d m) (λ s₁ u e.
    let c = (match_ends p.0 p.1 s d m.one m.other m.alike).given s₁ u e in
    matches-full l s₁ c.audited (every_map (λ q. match_later c.added) k))

-- matches that need no reason add none
neither_left : (a b : Bool) → a || b ≡ false → a ≡ false
neither_left true b e = e
neither_left false b e = refl

neither_right : (a b : Bool) → a || b ≡ false → b ≡ false
neither_right true b e = clash refl e
neither_right false b e = e

unneeded_match : (s : Store) (p : ℕ × ℕ) → Audited s → Match s p → needs_reason s p ≡ false → explain_match p.0 p.1 s ≡ ok s tt
unfolding explain_match needs_reason
unneeded_match s p d m e = go (plainly s p.0 p.1) refl e
  where
    go : (x : Bool) → plainly s p.0 p.1 ≡ x → (if x then false else is_reasoned s p.0 p.1) ≡ false → (if x then give tt else explain p.0 p.1) s ≡ ok s tt
    go true f i = refl
    go false f i = unreasoned s d p.0 p.1 m.one m.other (same_class_lem s p.0 p.1 m.alike f) i s.reasons

pub unneeded : (s : Store) → Audited s → {l : List (ℕ × ℕ)} → Every (Match s) l → any (needs_reason s) l ≡ false → explain_matches l s ≡ ok s tt
unfolding explain_matches any
unneeded s d none_left e = refl
unneeded s d (and {a = p} {l = l} m k) e =
    ap (and_then (λ (u : Unit {0}). explain_matches l)) (unneeded_match s p d m (neither_left (needs_reason s p) (any (needs_reason s) l) e))
    ∙ unneeded s d k (neither_right (needs_reason s p) (any (needs_reason s) l) e)

-- WHAT IS LEFT

-- two lists whose heads are different terms
abbrev pub Apart : List ℕ → List ℕ → Type 0
Apart [] r = Unit {0}
Apart (a ∷ l) [] = Unit {0}
Apart (a ∷ l) (b ∷ r) = a ≡ b → ⊥

apart-front : (l m r n : List ℕ) → Apart (l ++ m) (r ++ n) → Apart l r
apart-front [] m r n h = tt
apart-front (a ∷ l) m [] n h = tt
apart-front (a ∷ l) m (b ∷ r) n h = h

-- the matches ps are the heads of both lists
pub record Off (s : Store) (l r : List ℕ) (ps : List (ℕ × ℕ)) : Type 0 where
  pub left : l ≡ firsts ps ++ drop (length ps) l
  pub right : r ≡ seconds ps ++ drop (length ps) r
  pub matched : Every (Match s) ps
  pub apart : Apart (drop (length ps) l) (drop (length ps) r)

pub off_heads : (s : Store) (l r : List ℕ) → Strings s l → Strings s r → Off s l r (same_heads s l r)
unfolding same_heads firsts seconds
off_heads s [] r hl hr = record { left = refl; right = refl; matched = none_left; apart = tt }
off_heads s (a ∷ l) [] hl hr = record { left = refl; right = refl; matched = none_left; apart = tt }
off_heads s (a ∷ l) (b ∷ r) (and p hl) (and q hr) = go (same s a b) refl (off_heads s l r hl hr)
  where
    go : (x : Bool) → same s a b ≡ x → Off s l r (same_heads s l r) → Off s (a ∷ l) (b ∷ r) (elim x [ true ↦ (a, b) ∷ same_heads s l r | false ↦ [] ])
    go true e o = record {
      left = ap (λ (x : List ℕ). a ∷ x) o.left;
      right = ap (λ (x : List ℕ). b ∷ x) o.right;
      matched = and (record { one = p; other = q; alike = e }) o.matched;
      apart = o.apart;
    }
    go false e o = record { left = refl; right = refl; matched = none_left; apart = λ z. clash (same_self s a b z) e }

-- BOTH ENDS

pub record Stripped (l r : List ℕ) (s s' : Store) (v : List ℕ × List ℕ) : Type 0 where
  pub cited : Cited (λ w. concat_map w l ≡ concat_map w r → concat_map w v.0 ≡ concat_map w v.1) s s'
  pub left : Strings s' v.0
  pub right : Strings s' v.1
  pub apart : Apart v.0 v.1

-- a list without its first n, turned round
pub every_back : {A : Type 0} {P : A → Type 0} (n : ℕ) (l : List A) → Every P l → Every P (reverse (drop n l))
every_back {P = P} n l k = every_reverse (every_right (take n l) (drop n l) (subst (Every P) (sym (take-append-drop n l)) k))

module _ (s : Store) (l r : List ℕ) (hl : Strings s l) (hr : Strings s r) where
  abbrev heads : List (ℕ × ℕ)
  heads = same_heads s l r

  abbrev l₁ : List ℕ
  l₁ = drop (length heads) l

  abbrev r₁ : List ℕ
  r₁ = drop (length heads) r

  abbrev tails : List (ℕ × ℕ)
  tails = same_tails s (length heads) l r

  pub heads_off : Off s l r heads
  heads_off = off_heads s l r hl hr

  strings-left : Strings s l₁
  strings-left = every_right (firsts heads) l₁ (subst (Strings s) heads_off.left hl)

  strings-right : Strings s r₁
  strings-right = every_right (seconds heads) r₁ (subst (Strings s) heads_off.right hr)

  pub tails_off : Off s (reverse l₁) (reverse r₁) tails
  unfolding same_tails
  tails_off = off_heads s (reverse l₁) (reverse r₁) (every_back (length heads) l hl) (every_back (length heads) r hr)

  abbrev l₂ : List ℕ
  l₂ = reverse (drop (length tails) (reverse l₁))

  abbrev r₂ : List ℕ
  r₂ = reverse (drop (length tails) (reverse r₁))

  -- what the heads leave is what both leave, and the tails turned round
  pub turned_left : l₁ ≡ l₂ ++ reverse (firsts tails)
  turned_left = unturn l₁ (firsts tails) (drop (length tails) (reverse l₁)) tails_off.left

  pub turned_right : r₁ ≡ r₂ ++ reverse (seconds tails)
  turned_right = unturn r₁ (seconds tails) (drop (length tails) (reverse r₁)) tails_off.right

  pub front-back : (w : Words) → Alike w (firsts heads) (seconds heads) → Alike w (firsts tails) (seconds tails) → concat_map w l ≡ concat_map w r → concat_map w l₂ ≡ concat_map w r₂
  front-back w k k₂ e =
      let f : concat_map w l₁ ≡ concat_map w r₁ = cancel_front w (firsts heads) (seconds heads) l₁ r₁ k (ap (concat_map w) (sym heads_off.left) ∙ e ∙ ap (concat_map w) heads_off.right) in
      cancel_back w (reverse (firsts tails)) (reverse (seconds tails)) l₂ r₂ (alike_reverse w k₂)
      (ap (concat_map w) (sym turned_left) ∙ f ∙ ap (concat_map w) turned_right)

  both_off : (s₁ s₂ : Store) → Cited (λ w. Alike w (firsts heads) (seconds heads)) s s₁ → Cited (λ w. Alike w (firsts tails) (seconds tails)) s₁ s₂ → Stripped l r s s₂ (l₂, r₂)
  both_off s₁ s₂ c₁ c₂ = record {
    cited = cited-then front-back c₁ c₂;
    left = strings-later c₂.grown (strings-later c₁.grown (every_left l₂ (reverse (firsts tails)) (subst (Strings s) turned_left strings-left)));
    right = strings-later c₂.grown (strings-later c₁.grown (every_left r₂ (reverse (seconds tails)) (subst (Strings s) turned_right strings-right)));
    apart = apart-front l₂ (reverse (firsts tails)) r₂ (reverse (seconds tails)) (rw (← turned_left, ← turned_right) heads_off.apart);
  }

  explained : Audited s → Ends (λ s₂ u. Stripped l r s s₂ (l₂, r₂)) (explain_matches (heads ++ tails) s)
  explained d =
      rw (matches-append heads tails s)
      (ends-then _ _ (matches-end heads s d heads_off.matched)
      (λ s₁ u c₁. ends-map (λ s₂ v c₂. both_off s₁ s₂ c₁ c₂) (matches-end tails s₁ c₁.audited (every_map (λ q. match_later c₁.added) tails_off.matched))))

  -- all the matches
  pub all-matched : Every (Match s) (heads ++ tails)
  all-matched = every_append heads_off.matched tails_off.matched

pub strip-still : (l r : List ℕ) (s : Store) → Audited s → Strings s l → Strings s r → any (needs_reason s) (matches s l r) ≡ false → strip l r s ≡ ok s (rest s l r)
unfolding strip
strip-still l r s d hl hr e = ap (and_then (λ (u : Unit {0}). give (rest s l r))) (unneeded s d (all-matched s l r hl hr) e)

pub strip-ends : (l r : List ℕ) (s : Store) → Audited s → Strings s l → Strings s r → Ends (Stripped l r s) (strip l r s)
unfolding strip rest
strip-ends l r s d hl hr = ends-then _ _ (explained s l r hl hr d) (λ s₂ u x. ends-give {P = Stripped l r s} x)

pub strip-full : (l r : List ℕ) (s : Store) → Audited s → Strings s l → Strings s r → Full (strip l r s)
unfolding strip
strip-full l r s d hl hr = full-then _ _ (matches-full (matches s l r) s d (all-matched s l r hl hr)) (λ s₁ u e. full-ok)
