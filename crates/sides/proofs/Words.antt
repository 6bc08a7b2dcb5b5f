-- The algebra of words, with nothing of a store: words joined, cancelled, filled in and compared.
use Rattle.std.specs.Prelude.{if◌then◌else◌}
use mathlib.Core.Path.{◌≡◌, refl, sym, ap, ◌∙◌}
use mathlib.Core.Bool.{Bool, true, false, not, ◌&&◌, ◌||◌}
use mathlib.Core.List.{List, [], ◌∷◌, ◌++◌, reverse, append_cancel_left, append_cancel_right, reverse-append, reverse-reverse, reverse-cons}
use mathlib.Core.Logic.{⊎_elim}
use Prim.Native.Nat.{ℕ, suc, ◌+◌, ◌-◌, ◌*◌, ◌/◌, ◌≤◌, ◌<◌}
use native.Mathlib.Nat.{suc-mul, div-eq_of_eq-mul_right}
use native.Mathlib.Omega.{arith}
use lib.ListN.{length, take, drop, length-append, take-append-drop}
use lib.Seq.{take-append-le, take_at, drop_at}
use lib.Dec.{eqb}
use borrow.Author.Tests.{not-true, eq-eqb}
use Rattle.records.specs.Lists.{all, any, keep, concat_map, is_in, Every, none_left, and}
use Rattle.records.proofs.Lists.{either, or_left, or_right, clash, any_append, concat_map-append}
use Rattle.sides.specs.Wordeq.{differ}

-- LISTS OF ONE LENGTH WITH EQUAL WORDS

module _ {A : Type 0} (w : A → List ℕ) where
  -- the same words one by one
  pub data Alike : List A → List A → Type 0 where
    nothing : Alike [] []
    pair : {a b : A} {l r : List A} → w a ≡ w b → Alike l r → Alike (a ∷ l) (b ∷ r)

  pub alike_concat_map : {l r : List A} → Alike l r → concat_map w l ≡ concat_map w r
  unfolding concat_map
  alike_concat_map nothing = refl
  alike_concat_map (pair e k) = let h = alike_concat_map k in cc

  alike_append : {l r m n : List A} → Alike l r → Alike m n → Alike (l ++ m) (r ++ n)
  alike_append nothing k = k
  alike_append (pair e h) k = pair e (alike_append h k)

  pub alike_reverse : {l r : List A} → Alike l r → Alike (reverse l) (reverse r)
  alike_reverse nothing = nothing
  alike_reverse (pair {a} {b} {l} {r} e k) = rw (reverse-cons a l, reverse-cons b r) (alike_append (alike_reverse k) (pair e nothing))

  -- CANCELLING

  pub cancel_front : (p q l r : List A) → Alike p q → concat_map w (p ++ l) ≡ concat_map w (q ++ r) → concat_map w l ≡ concat_map w r
  cancel_front p q l r k e =
      append_cancel_left (concat_map w p) (concat_map w l) (concat_map w r)
      (sym (concat_map-append w p l) ∙ e ∙ concat_map-append w q r ∙ ap (λ (x : List ℕ). x ++ concat_map w r) (sym (alike_concat_map k)))

  pub cancel_back : (p q l r : List A) → Alike p q → concat_map w (l ++ p) ≡ concat_map w (r ++ q) → concat_map w l ≡ concat_map w r
  cancel_back p q l r k e =
      append_cancel_right (concat_map w l) (concat_map w r) (concat_map w p)
      (sym (concat_map-append w l p) ∙ e ∙ concat_map-append w r q ∙ ap (λ (x : List ℕ). concat_map w r ++ x) (sym (alike_concat_map k)))

  -- A WORD INSIDE A LONGER ONE

  -- a list with y, and a character elsewhere, is longer than y
  pub inside_longer : (past rest : List A) (y : A) → 0 < length (concat_map w (past ++ rest)) → length (w y) < length (concat_map w (past ++ y ∷ rest))
  unfolding concat_map
  inside_longer past rest y h =
      let p : length (concat_map w (past ++ rest)) ≡ length (concat_map w past) + length (concat_map w rest) = ap length (concat_map-append w past rest) ∙ length-append (concat_map w past) (concat_map w rest) in
      rw (concat_map-append w past (y ∷ rest), length-append (concat_map w past) (w y ++ concat_map w rest), length-append (w y) (concat_map w rest)) (omega arith)

  -- a list with a word that is not empty
  pub some_long : (p : A → Bool) (l : List A) → ((a : A) → p a ≡ true → 0 < length (w a)) → any p l ≡ true → 0 < length (concat_map w l)
  unfolding any concat_map
  some_long p [] f e = clash e refl
  some_long p (a ∷ l) f e =
      rw (length-append (w a) (concat_map w l))
      (⊎_elim (λ h. let k = f a h in omega arith) (λ h. let k = some_long p l f h in omega arith) (either (p a) (any p l) e))

  -- each word of an empty list of words is empty
  pub empty_each : (l : List A) → concat_map w l ≡ [] → Every (λ a. w a ≡ []) l
  unfolding concat_map
  empty_each [] e = none_left
  empty_each (a ∷ l) e = go (empty_each l) (w a) refl e
    where
      go : (concat_map w l ≡ [] → Every (λ a. w a ≡ []) l) → (v : List ℕ) → w a ≡ v → v ++ concat_map w l ≡ [] → Every (λ a. w a ≡ []) (a ∷ l)
      go ih [] p e = and p (ih e)
      go ih (x ∷ v) p e = let z : ◌≡◌ {A = ℕ} 0 1 = cc in absurd (omega arith)

pub unturn : {A : Type 0} (l p m : List A) → reverse l ≡ p ++ m → l ≡ reverse m ++ reverse p
unturn l p m e = sym (reverse-reverse l) ∙ ap reverse e ∙ reverse-append p m

-- FILLING IN: t where p passes, u elsewhere

module _ {A : Type 0} (p : A → Bool) (t : A → List ℕ) where
  abbrev pub fill : List ℕ → A → List ℕ
  fill u a = if p a then t a else u

  -- the words of a list whose elements have the word t, or u
  pub fill_is : (w : A → List ℕ) (u : List ℕ) → ((a : A) → p a ≡ true → w a ≡ t a) → {l : List A} → Every (λ a. not (p a) ≡ true → w a ≡ u) l → concat_map w l ≡ concat_map (fill u) l
  unfolding concat_map
  fill_is w u is none_left = refl
  fill_is w u is (and {a} {l} e k) = go (fill_is w u is k) (p a) refl e
    where
      go : concat_map w l ≡ concat_map (fill u) l → (b : Bool) → p a ≡ b → (not b ≡ true → w a ≡ u) → w a ++ concat_map w l ≡ (if b then t a else u) ++ concat_map (fill u) l
      go ih true q f = let r = is a q in cc
      go ih false q f = let r = f refl in cc

  -- where each passes
  pub fill-all : (w : A → List ℕ) (u : List ℕ) → ((a : A) → p a ≡ true → w a ≡ t a) → (l : List A) → all p l ≡ true → concat_map w l ≡ concat_map (fill u) l
  unfolding concat_map all
  fill-all w u is [] e = refl
  fill-all w u is (a ∷ l) e = go (fill-all w u is l) (p a) refl e
    where
      go : (all p l ≡ true → concat_map w l ≡ concat_map (fill u) l) → (b : Bool) → p a ≡ b → b && all p l ≡ true
          → w a ++ concat_map w l ≡ (if b then t a else u) ++ concat_map (fill u) l
      go ih true q f = let r = is a q in let h = ih f in cc
      go ih false q f = clash f refl

  -- k × m + c
  pub fill-length : (u : List ℕ) (l : List A) → length (concat_map (fill u) l) ≡ length (keep (λ a. not (p a)) l) * length u + length (concat_map (fill []) l)
  unfolding concat_map keep
  fill-length u [] = omega arith
  fill-length u (a ∷ l) = go (fill-length u l) (p a)
    where
      rest : List A
      rest = keep (λ a. not (p a)) l

      go : length (concat_map (fill u) l) ≡ length rest * length u + length (concat_map (fill []) l) → (b : Bool)
          → length ((if b then t a else u) ++ concat_map (fill u) l)
          ≡ length (if not b then (a ∷ rest) else rest) * length u + length ((if b then t a else []) ++ concat_map (fill []) l)
      go ih true = rw (length-append (t a) (concat_map (fill u) l), length-append (t a) (concat_map (fill []) l)) (omega arith)
      go ih false = rw (length-append u (concat_map (fill u) l), suc-mul (length rest) (length u)) (omega arith)

  module _ (w : A → List ℕ) (is : (a : A) → p a ≡ true → w a ≡ t a) where
    -- the characters of those that pass are among all
    pub fill-within : (l : List A) → length (concat_map (fill []) l) ≤ length (concat_map w l)
    unfolding concat_map
    fill-within [] = omega arith
    fill-within (a ∷ l) = go (fill-within l) (p a) refl
      where
        go : length (concat_map (fill []) l) ≤ length (concat_map w l) → (b : Bool) → p a ≡ b → length ((if b then t a else []) ++ concat_map (fill []) l) ≤ length (w a ++ concat_map w l)
        go ih true q = rw (is a q, length-append (t a) (concat_map (fill []) l), length-append (t a) (concat_map w l)) (omega arith)
        go ih false q = rw (length-append (w a) (concat_map w l)) (omega arith)

    pub fill_in : (l : List A) (c : ℕ) → is_in c (concat_map (fill []) l) ≡ true → is_in c (concat_map w l) ≡ true
    unfolding concat_map is_in
    fill_in [] c e = e
    fill_in (a ∷ l) c e = go (fill_in l c) (p a) refl e
      where
        in_right : any (eqb c) (concat_map w l) ≡ true → any (eqb c) (w a ++ concat_map w l) ≡ true
        in_right h = any_append (eqb c) (w a) (concat_map w l) ∙ or_right (any (eqb c) (w a)) _ h

        in_left : any (eqb c) (w a) ≡ true → any (eqb c) (w a ++ concat_map w l) ≡ true
        in_left h = any_append (eqb c) (w a) (concat_map w l) ∙ or_left (any (eqb c) (w a)) _ h

        go : (any (eqb c) (concat_map (fill []) l) ≡ true → any (eqb c) (concat_map w l) ≡ true) → (b : Bool) → p a ≡ b
            → any (eqb c) ((if b then t a else []) ++ concat_map (fill []) l) ≡ true → any (eqb c) (w a ++ concat_map w l) ≡ true
        go ih true q e =
            ⊎_elim (λ h. in_left (ap (any (eqb c)) (is a q) ∙ h)) (λ h. in_right (ih h))
            (either (any (eqb c) (t a)) _ (sym (any_append (eqb c) (t a) (concat_map (fill []) l)) ∙ e))
        go ih false q e = in_right (ih e)

-- the first span: u stands in the word behind the lead, and the word's length is k × m + c for u's length m
pub span-is : (lead u rest word : List ℕ) (k c : ℕ) → word ≡ lead ++ (u ++ rest) → length word ≡ suc k * length u + c → take ((length word - c) / suc k) (drop (length lead) word) ≡ u
span-is lead u rest word k c e n =
    let m : (length word - c) / suc k ≡ length u = span-long (length word) (suc k) (length u) c (omega arith) n in
    ap (λ (x : List ℕ). take ((length word - c) / suc k) (drop (length lead) x)) e
    ∙ ap (take ((length word - c) / suc k)) (drop_at lead (u ++ rest) (length lead) refl)
    ∙ take_at u rest ((length word - c) / suc k) (sym m)
  where
    span-long : (n k m c : ℕ) → 0 < k → n ≡ k * m + c → (n - c) / k ≡ m
    span-long n k m c h e = let q : n - c ≡ k * m = omega arith in div-eq_of_eq-mul_right {n = k} h q

pub span-forced : (n k m c : ℕ) → 0 < k → n ≡ k * m + c → k * ((n - c) / k) + c ≡ n
span-forced n k m c h e =
    let q : n - c ≡ k * m = omega arith in
    ap (λ (x : ℕ). k * x + c) (div-eq_of_eq-mul_right {n = k} h q) ∙ sym e

-- HEADS

-- of two words that begin one word, the longer is the shorter and more
pub longer-is : (v w x y : List ℕ) → v ++ x ≡ w ++ y → length w ≤ length v → v ≡ w ++ drop (length w) v
longer-is v w x y e h =
    let p : take (length w) v ≡ w = sym (take-append-le (length w) v x h) ∙ ap (take (length w)) e ∙ take_at w y (length w) refl in
    sym (take-append-drop (length w) v) ∙ ap (λ (z : List ℕ). z ++ drop (length w) v) p

-- a word that is not empty begins with the first character of the whole
pub first_is : (y c : ℕ) (ys cs : List ℕ) → y ∷ ys ≡ c ∷ cs → y ≡ c
first_is y c ys cs e = cc

-- two words that differ at a character begin no word
pub differ-apart : (v w x y : List ℕ) → differ v w ≡ true → v ++ x ≡ w ++ y → ⊥
unfolding differ
differ-apart [] w x y e z = clash e refl
differ-apart (a ∷ v) [] x y e z = clash e refl
differ-apart (a ∷ v) (b ∷ w) x y e z =
    let p : a ≡ b = cc in
    let q : v ++ x ≡ w ++ y = cc in
    ⊎_elim (λ h. clash (eq-eqb a b p) (not-true _ h)) (λ h. differ-apart v w x y h q) (either (not (eqb a b)) (differ v w) e)

-- FOUND

-- a character of one word that the test passes
pub any_in : (p : ℕ → Bool) (v : List ℕ) → any p v ≡ true → (c : ℕ) × (p c ≡ true) × (is_in c v ≡ true)
unfolding any is_in
any_in p [] e = clash e refl
any_in p (x ∷ v) e = go (any_in p v) (p x) refl e
  where
    go : (any p v ≡ true → (c : ℕ) × (p c ≡ true) × (any (eqb c) v ≡ true)) → (b : Bool) → p x ≡ b → b || any p v ≡ true → (c : ℕ) × (p c ≡ true) × (eqb c x || any (eqb c) v ≡ true)
    go ih true q e = (x, q, or_left (eqb x x) _ (eq-eqb x x refl))
    go ih false q e = ((ih e).0, (ih e).1, or_right (eqb (ih e).0 x) _ (ih e).2)
