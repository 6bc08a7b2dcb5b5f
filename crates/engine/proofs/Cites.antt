-- Reasons given in turn: the one thing that explain does to a store.
use Rattle.std.specs.Prelude.{if◌then◌else◌}
use mathlib.Core.Path.{◌≡◌, refl, sym, ap, subst, ◌∙◌}
use mathlib.Core.Bool.{Bool, true, false, not, ◌&&◌}
use mathlib.Core.List.Memᴰ
use mathlib.Core.List.{List, [], ◌∷◌, ◌++◌, Memᴰ}
use mathlib.Core.Logic.{⊎_elim}
use Prim.Native.Nat.{ℕ, ◌≤◌}
use native.Mathlib.Omega.{arith}
use lib.ListN.{length, length-append}
use lib.Dec.{eqb, ltb}
use borrow.Author.Tests.{eqb-true, ltb-true, lt-ltb}
use Rattle.records.specs.Lists.{any, one_more, Every, none_left, and}
use Rattle.records.specs.Store.{Store, Out, ok, stop, Work, and_then, ◌>>◌, give}
use Rattle.records.specs.Make.{add_reason, with_reasons, same_pair, is_listed, each_new, EachOnce}
use Rattle.engine.specs.Explain.{gives_reason}
use Rattle.records.proofs.Lists.{every_append, either, both_left, both_right, clash}
use Rattle.records.proofs.Works.{stop-not}
use Rattle.records.proofs.LaterStores.{once_none, once_then}

-- a store with room for n reasons
abbrev pub roomed : Store → ℕ → Store
roomed s n = record {
  terms = s.terms;
  cells = s.cells;
  chars = s.chars;
  reasons = s.reasons;
  keys = s.keys;
  names = s.names;
  room = record {
    terms = s.room.terms;
    cells = s.room.cells;
    chars = s.room.chars;
    reasons = n;
    keys = s.room.keys;
    zero_term = s.room.zero_term;
    terms_long = s.room.terms_long;
    cells_long = s.room.cells_long;
    zero_cell = s.room.zero_cell;
  };
}

-- each reason in turn
unfoldable pub cites : List (ℕ × ℕ) → Work (Unit {0})
cites [] = give tt
cites (r ∷ l) = add_reason r.0 r.1 >> cites l

-- a list with a reason more, unless it has it; and with each of a list
abbrev pub with_one : List (ℕ × ℕ) → ℕ × ℕ → List (ℕ × ℕ)
with_one rs r = if is_listed r rs then rs else one_more rs r

unfoldable pub with_all : List (ℕ × ℕ) → List (ℕ × ℕ) → List (ℕ × ℕ)
with_all rs [] = rs
with_all rs (r ∷ l) = with_all (with_one rs r) l

-- the next finds no room
abbrev is_full : List (ℕ × ℕ) → ℕ → ℕ × ℕ → Bool
is_full rs n r = not (is_listed r rs) && not (ltb (length rs) n)

pair_is : (a b c d : ℕ) → a ≡ c → b ≡ d → ◌≡◌ {A = ℕ × ℕ} (a, b) (c, d)
pair_is a b c d p q = cc

-- a pair that is found is a member
pub found-is : (p : ℕ × ℕ) (l : List (ℕ × ℕ)) → any (same_pair p) l ≡ true → Memᴰ p l
unfolding any same_pair
found-is p [] e = clash e refl
found-is p (q ∷ l) e =
    ⊎_elim (λ h. Memᴰ.head (pair_is _ _ q.0 q.1 (eqb-true _ _ (both_left _ _ h)) (eqb-true _ _ (both_right (eqb p.0 q.0) _ h))))
    (λ h. Memᴰ.tail (found-is p l h)) (either (same_pair p q) _ e)

-- WHAT A LIST HAS THEN

-- the list with a reason more, unless it has it: what was there, that reason, and no other
record One (P : ℕ × ℕ → Type 0) (rs : List (ℕ × ℕ)) (r : ℕ × ℕ) (l : List (ℕ × ℕ)) : Type 0 where
  once : EachOnce rs l
  each : Every P once.more
  has : Memᴰ r l

one_appended : (P : ℕ × ℕ → Type 0) (rs : List (ℕ × ℕ)) (r : ℕ × ℕ) → P r → One P rs r (with_one rs r)
unfolding once_none is_listed each_new
one_appended P rs r p = go (is_listed r rs) refl
  where
    go : (b : Bool) → is_listed r rs ≡ b → One P rs r (if b then rs else one_more rs r)
    go true e = record { once = once_none refl; each = none_left; has = found-is r rs e }
    go false e = record {
      once = record { more = r ∷ []; is = refl; new = rw e refl };
      each = and p none_left;
      has = Memᴰ.append_right rs (Memᴰ.head refl);
    }

-- the list with each of l that it lacked: they have what all of l have, and all of l are there
pub record Gathered (P : ℕ × ℕ → Type 0) (l rs : List (ℕ × ℕ)) : Type 0 where
  pub once : EachOnce rs (with_all rs l)
  pub each : Every P once.more
  pub all : (r : ℕ × ℕ) → Memᴰ r l → Memᴰ r (with_all rs l)

pub gathered : (P : ℕ × ℕ → Type 0) {l : List (ℕ × ℕ)} → Every P l → (rs : List (ℕ × ℕ)) → Gathered P l rs
unfolding with_all once_none once_then
gathered P none_left rs = record { once = once_none refl; each = none_left; all = λ r m. absurd (Memᴰ.not-nil m) }
gathered P (and {a = a} {l = l} p k) rs = go (one_appended P rs a p) (gathered P k (with_one rs a))
  where
    go : One P rs a (with_one rs a) → Gathered P l (with_one rs a) → Gathered P (a ∷ l) rs
    go x y = record {
      once = once_then x.once y.once;
      each = every_append x.each y.each;
      all = λ r m. ⊎_elim
          (λ e. subst (Memᴰ r) (sym y.once.is) (Memᴰ.append_left y.once.more (subst (λ (q : ℕ × ℕ). Memᴰ q (with_one rs a)) (sym e) x.has)))
          (y.all r) (Memᴰ.cases_cons m);
    }

-- a list with a member is not empty
some-listed : (l : List (ℕ × ℕ)) (r : ℕ × ℕ) → Memᴰ r l → ltb 0 (length l) ≡ true
some-listed [] r m = absurd (Memᴰ.not-nil m)
some-listed (q ∷ l) r m = lt-ltb 0 (length (q ∷ l)) (omega arith)

every_unit : (l : List (ℕ × ℕ)) → Every (λ q. Unit {0}) l
every_unit [] = none_left
every_unit (r ∷ l) = and tt (every_unit l)

module _ (s : Store) where
  -- the next reason is there, is added at the end, or finds no room
  pub cites-next : (r : ℕ × ℕ) (l rs : List (ℕ × ℕ))
      → cites (r ∷ l) (with_reasons s rs) ≡ (if is_full rs s.room.reasons r then stop 7 else cites l (with_reasons s (with_one rs r)))
  unfolding cites add_reason
  cites-next r l rs = go (is_listed r rs) (ltb (length rs) s.room.reasons)
    where
      go : (a b : Bool) → ◌≡◌ {A = Out (Unit {0})}
          (and_then (λ (u : Unit {0}). cites l) (if◌then◌else◌ {A = Work (Unit {0})} a (λ (s₀ : Store). ok s₀ tt)
          (if◌then◌else◌ {A = Work (Unit {0})} b (λ (s₀ : Store). ok (with_reasons s (one_more rs r)) tt) (λ (s₀ : Store). stop 7)) (with_reasons s rs)))
          (if not a && not b then stop 7 else cites l (with_reasons s (if a then rs else one_more rs r)))
      go true b = refl
      go false true = refl
      go false false = refl

  -- then an answer
  abbrev pub citing : {A : Type 0} → List (ℕ × ℕ) → A → List (ℕ × ℕ) → Out A
  citing l a rs = (cites l >> give a) (with_reasons s rs)

  citing-next : {A : Type 0} (r : ℕ × ℕ) (l : List (ℕ × ℕ)) (a : A) (rs : List (ℕ × ℕ))
      → citing (r ∷ l) a rs ≡ (if is_full rs s.room.reasons r then stop 7 else citing l a (with_one rs r))
  citing-next {A} r l a rs = ap (and_then (λ (u : Unit {0}). give a)) (cites-next r l rs) ∙ go (is_full rs s.room.reasons r)
    where
      go : (b : Bool) → ◌≡◌ {A = Out A} (and_then (λ (u : Unit {0}). give a) (if b then stop 7 else cites l (with_reasons s (with_one rs r)))) (if b then stop 7 else citing l a (with_one rs r))
      go true = refl
      go false = refl

  module _ {A B : Type 0} where
    next-then : (f : A → Work B) (r : ℕ × ℕ) (l : List (ℕ × ℕ)) (a : A) (rs : List (ℕ × ℕ))
        → and_then f (citing (r ∷ l) a rs) ≡ (if is_full rs s.room.reasons r then stop 7 else and_then f (citing l a (with_one rs r)))
    next-then f r l a rs = ap (and_then f) (citing-next r l a rs) ∙ go (is_full rs s.room.reasons r)
      where
        go : (b : Bool) → ◌≡◌ {A = Out B} (and_then f (if b then stop 7 else citing l a (with_one rs r))) (if b then stop 7 else and_then f (citing l a (with_one rs r)))
        go true = refl
        go false = refl

    -- work that goes on alike from every answer goes on alike
    pub citing-same : (f g : A → Work B) (l : List (ℕ × ℕ)) (a : A) → ((rs : List (ℕ × ℕ)) → f a (with_reasons s rs) ≡ g a (with_reasons s rs))
        → (rs : List (ℕ × ℕ)) → and_then f (citing l a rs) ≡ and_then g (citing l a rs)
    unfolding cites
    citing-same f g [] a h rs = h rs
    citing-same f g (r ∷ l) a h rs =
        next-then f r l a rs ∙ ap (λ (o : Out B). if is_full rs s.room.reasons r then stop 7 else o) (citing-same f g l a h (with_one rs r)) ∙ sym (next-then g r l a rs)

    pub citing-then : (f : A → Work B) (l m : List (ℕ × ℕ)) (a : A) (b : B) → ((rs : List (ℕ × ℕ)) → f a (with_reasons s rs) ≡ citing m b rs)
        → (rs : List (ℕ × ℕ)) → and_then f (citing l a rs) ≡ citing (l ++ m) b rs
    unfolding cites
    citing-then f [] m a b h rs = h rs
    citing-then f (r ∷ l) m a b h rs =
        next-then f r l a rs ∙ ap (λ (o : Out B). if is_full rs s.room.reasons r then stop 7 else o) (citing-then f l m a b h (with_one rs r)) ∙ sym (citing-next r (l ++ m) b rs)

  -- it ends with each that was lacking added, where it ends; else it stops with 7
  pub cites-ok : (l rs : List (ℕ × ℕ)) (s' : Store) (u : Unit {0}) → cites l (with_reasons s rs) ≡ ok s' u → s' ≡ with_reasons s (with_all rs l)
  unfolding cites with_all
  cites-ok [] rs s' u e = cc
  cites-ok (r ∷ l) rs s' u e = go (is_full rs s.room.reasons r) (sym (cites-next r l rs) ∙ e) (cites-ok l (with_one rs r) s' u)
    where
      go : (b : Bool) → ◌≡◌ {A = Out (Unit {0})} (if b then stop 7 else cites l (with_reasons s (with_one rs r))) (ok s' u)
          → (cites l (with_reasons s (with_one rs r)) ≡ ok s' u → s' ≡ with_reasons s (with_all (with_one rs r) l)) → s' ≡ with_reasons s (with_all (with_one rs r) l)
      go true q ih = stop-not q
      go false q ih = ih q

  -- and the room is enough for them
  pub cites-room : (l rs : List (ℕ × ℕ)) (s' : Store) (u : Unit {0}) → cites l (with_reasons s rs) ≡ ok s' u → length rs ≤ s.room.reasons → length (with_all rs l) ≤ s.room.reasons
  unfolding cites with_all
  cites-room [] rs s' u e h = h
  cites-room (r ∷ l) rs s' u e h = go (is_listed r rs) (ltb (length rs) s.room.reasons) refl (sym (cites-next r l rs) ∙ e) (cites-room l (with_one rs r) s' u)
    where
      go : (a b : Bool) → ltb (length rs) s.room.reasons ≡ b
          → ◌≡◌ {A = Out (Unit {0})} (if not a && not b then stop 7 else cites l (with_reasons s (if a then rs else one_more rs r))) (ok s' u)
          → (cites l (with_reasons s (if a then rs else one_more rs r)) ≡ ok s' u → length (if a then rs else one_more rs r) ≤ s.room.reasons → length (with_all (if a then rs else one_more rs r) l) ≤ s.room.reasons)
          → length (with_all (if a then rs else one_more rs r) l) ≤ s.room.reasons
      go true b j q ih = ih q h
      go false true j q ih = let n = length-append rs (r ∷ []) in let k = ltb-true (length rs) s.room.reasons j in let m : length (one_more rs r) ≤ s.room.reasons = omega arith in ih q m
      go false false j q ih = stop-not q

  pub cites-stops : (l rs : List (ℕ × ℕ)) (n : ℕ) → cites l (with_reasons s rs) ≡ stop n → n ≡ 7
  unfolding cites
  cites-stops [] rs n e = stop-not (sym e)
  cites-stops (r ∷ l) rs n e = go (is_full rs s.room.reasons r) (sym (cites-next r l rs) ∙ e) (cites-stops l (with_one rs r) n)
    where
      go : (b : Bool) → ◌≡◌ {A = Out (Unit {0})} (if b then stop 7 else cites l (with_reasons s (with_one rs r))) (stop n)
          → (cites l (with_reasons s (with_one rs r)) ≡ stop n → n ≡ 7) → n ≡ 7
      go true q ih = cc
      go false q ih = ih q

  -- from an empty list, a first reason is listed or finds no room
  pub cites-given : (r : ℕ × ℕ) (l : List (ℕ × ℕ)) → gives_reason (cites (r ∷ l) (with_reasons s [])) ≡ true
  cites-given r l = go (cites (r ∷ l) (with_reasons s [])) refl
    where
      go : (o : Out (Unit {0})) → cites (r ∷ l) (with_reasons s []) ≡ o → gives_reason o ≡ true
      go (stop n) e = refl
      go (ok s' u) e =
          some-listed s'.reasons r (subst (Memᴰ r) (sym (ap (λ (x : Store). x.reasons) (cites-ok (r ∷ l) [] s' u e)))
          ((gathered (λ q. Unit {0}) (every_unit (r ∷ l)) []).all r (Memᴰ.head refl)))
