-- The places that the constant characters of a side use, and the characters of another side looked for among them.
use mathlib.Core.Path.{◌≡◌, refl, sym, ap, ◌∙◌}
use mathlib.Core.Bool.{Bool, true, false, not, ◌||◌}
use mathlib.Core.List.{List, [], ◌∷◌, ◌++◌}
use Prim.Native.Nat.{ℕ, suc, ◌+◌, ◌<◌, ◌≤◌}
use native.Mathlib.Numerals.{add-one}
use native.Mathlib.Omega.{arith}
use lib.ListN.{length, get_or, set, drop, replicate, length-set}
use lib.Dec.{eqb}
use borrow.Author.Tests.{eq-eqb, not-false}
use Rattle.records.specs.declared.State.{State}
use Rattle.records.specs.Lists.{any, is_in}
use Rattle.records.specs.Store.{Store, Term, kind}
use Rattle.records.specs.View.{lent, char_limit, span, read_in, termed, term_at}
use Rattle.records.proofs.Lists.{any_append, any-turn, any-stop, any-zero, or_left, or_none_lem, right-false, and-stop, and-next, failed, passed, clash}
use Rattle.records.proofs.Views.{term-there, text-words}
use Rattle.sides.specs.Wordeq.{fixed, letters_of, letters, absent}
use Rattle.sides.specs.Working.Sides.{Texts}
use Rattle.sides.specs.Working.Lacking.{seen, used, Uses, Lacking}
use Rattle.sides.proofs.Refines.SideLetters.{letters-other, letters-at, letters-end}
use Rattle.sides.proofs.SideReady.{length_whole}
use Rattle.sides.proofs.Refines.LackingPlaces.{or_assoc, used-length, seen_none, seen-again, seen-used}

any_same : {A : Type 0} (p q : A → Bool) (l : List A) → ((x : A) → p x ≡ q x) → any p l ≡ any q l
unfolding any
any_same p q [] f = refl
any_same p q (x ∷ l) f = let a = f x in let b = any_same p q l f in rw (a, b)

is_in-append : (x : ℕ) (l m : List ℕ) → is_in x (l ++ m) ≡ (is_in x l || is_in x m)
unfolding is_in
is_in-append x l m = any_append (eqb x) l m

-- A CONSTANT'S CHARACTERS IN THE LENT WORDS

module _ (w : List ℕ) (c : State) (a k : ℕ) (x : Texts w c) (e : k ≡ kind (termed w c) a) (o : k ≡ 1) where
  letters-words : (h : List ℕ) → letters_of (read_in w h c) a ≡ span h (term_at w a).first (term_at w a).second
  unfolding letters_of
  letters-words h = rw (eq-eqb (kind (termed w c) a) 1 (sym e ∙ o)) (text-words w h c a 0 (sym e ∙ o) (x.constants a (sym e ∙ o)))

  module _ (f g p n : ℕ) (i : f ≡ (term_at w a).first) (j : p ≡ f) (u : g ≡ (term_at w a).second) (v : n ≡ g) where
    pub text-fits : p + n ≤ c.chars
    text-fits =
        let t = term-there w c a 0 (sym e ∙ o) in
        let y = ap (λ (z : Term). z.first) t in
        let z = ap (λ (z : Term). z.second) t in
        let q = x.constants a (sym e ∙ o) in omega arith

    pub text-limit : p + n ≤ char_limit
    text-limit = let q = text-fits in let r = x.limited in omega arith

    letters-here : (h : List ℕ) → letters_of (read_in w h c) a ≡ span h p n
    letters-here h = letters-words h ∙ (let y : p ≡ (term_at w a).first = j ∙ i in let z : n ≡ (term_at w a).second = v ∙ u in rw (y, z))

    pub use_atom-is : (t t' : List ℕ) → length t ≡ char_limit → t' ≡ used t p n → Uses c.chars (λ h. letters_of (read_in w h c) a) t t'
    use_atom-is t t' s d = record {
      size = ap length d ∙ used-length t p n;
      uses = λ h y.
          ap (λ (z : List ℕ). seen h z c.chars y) d
          ∙ seen-used h t c.chars p n y text-fits (let q = text-limit in omega arith)
          ∙ ap (λ (z : List ℕ). seen h t c.chars y || is_in y z) (sym (letters-here h));
    }

    pub lack-atom-is : (h t t' : List ℕ) (b : Bool) → Lacking h c.chars (span h p n) t t' b → Lacking h c.chars (letters_of (read_in w h c) a) t t' b
    lack-atom-is h t t' b q = record { says = q.says ∙ ap (any (λ y. not (seen h t c.chars y))) (sym (letters-here h)); size = q.size; kept = q.kept }

module _ (w : List ℕ) (c : State) (a k : ℕ) (x : Texts w c) (e : k ≡ kind (termed w c) a) (o : k ≡ 1 → ⊥) (t : List ℕ) where
  pub use_atom-none : Uses c.chars (λ h. letters_of (read_in w h c) a) t t
  unfolding is_in any
  use_atom-none = record {
    size = refl;
    uses = λ h y. sym (ap (λ (z : List ℕ). seen h t c.chars y || is_in y z) (letters-other w h c x a (λ z. o (e ∙ z))) ∙ or_none_lem (seen h t c.chars y));
  }

  pub lack-atom-none : (h : List ℕ) → Lacking h c.chars (letters_of (read_in w h c) a) t t false
  unfolding any
  lack-atom-none h = record { says = sym (ap (any (λ y. not (seen h t c.chars y))) (letters-other w h c x a (λ z. o (e ∙ z)))); size = refl; kept = λ z y. refl }

-- THE PLACES OF A SIDE

-- with the characters from atom i on, those of all atoms are used
pub record UsingSide (w : List ℕ) (c : State) (l t₀ t : List ℕ) (i : ℕ) : Type 0 where
  pub size : length t ≡ length t₀
  pub rest : (h : List ℕ) (x : ℕ) → (seen h t c.chars x || is_in x (letters (read_in w h c) (drop i l))) ≡ (seen h t₀ c.chars x || is_in x (letters (read_in w h c) l))

module _ (w : List ℕ) (c : State) (l t₀ t : List ℕ) (i : ℕ) (m : UsingSide w c l t₀ t i) where
  pub using_side_one : (t' : List ℕ) → i < length l → Uses c.chars (λ h. letters_of (read_in w h c) (get_or l i 0)) t t' → UsingSide w c l t₀ t' (i + 1)
  using_side_one t' q d = record {
    size = d.size ∙ m.size;
    rest = λ h x.
        let s = read_in w h c in
        let n = c.chars in
        rw add-one (
        ap (λ (b : Bool). b || is_in x (letters s (drop (suc i) l))) (d.uses h x)
        ∙ or_assoc (seen h t n x) (is_in x (letters_of s (get_or l i 0))) (is_in x (letters s (drop (suc i) l)))
        ∙ ap (λ (b : Bool). seen h t n x || b) (sym (is_in-append x (letters_of s (get_or l i 0)) (letters s (drop (suc i) l))) ∙ ap (is_in x) (sym (letters-at s l i q)))
        ∙ m.rest h x);
  }

  pub using_side_done : length l ≤ i → Uses c.chars (λ h. letters (read_in w h c) l) t₀ t
  unfolding is_in any
  using_side_done q = record {
    size = m.size;
    uses = λ h x.
        sym (ap (λ (z : List ℕ). seen h t c.chars x || is_in x z) (letters-end (read_in w h c) l i q) ∙ or_none_lem (seen h t c.chars x))
        ∙ m.rest h x;
  }

-- A TEXT LOOKED FOR

module _ (h : List ℕ) (n p k : ℕ) (t₀ t : List ℕ) where
  -- the first j characters are seen
  pub record Looked (j : ℕ) : Type 0 where
    pub within : j ≤ k
    pub size : length t ≡ length t₀
    pub none : any (λ x. not (seen h t₀ n x)) (span h p j) ≡ false
    pub kept : (x : ℕ) → seen h t n x ≡ seen h t₀ n x

pub looked_none : (h : List ℕ) (n p k : ℕ) (t : List ℕ) → Looked h n p k t t 0
looked_none h n p k t = record { within = omega arith; size = refl; none = any-zero (λ x. not (seen h t n x)) (λ i. get_or h (p + i) 0); kept = λ x. refl }

module _ (h : List ℕ) (n p k : ℕ) (t₀ t : List ℕ) (j : ℕ) (a : Looked h n p k t₀ t j) where
  module _ (b : Bool) (e : b ≡ seen h t n (get_or h (p + j) 0)) (q : j < k) where
    pub looked_stop : not b ≡ true → Lacking h n (span h p k) t₀ t true
    looked_stop z = record {
      says = any-stop (λ x. not (seen h t₀ n x)) (λ i. get_or h (p + i) 0) k j (not b) (ap not (e ∙ a.kept (get_or h (p + j) 0))) z q;
      size = a.size;
      kept = λ y. clash refl y;
    }

    pub looked_one : p + k ≤ n → n ≤ char_limit → length t₀ ≡ char_limit → not b ≡ false → Looked h n p k t₀ (set t (p + j) 1) (j + 1)
    looked_one r y u z =
        let s = a.size in record {
          within = omega arith;
          size = length-set t (p + j) 1 ∙ s;
          none = any-turn (λ x. not (seen h t₀ n x)) (λ i. get_or h (p + i) 0) j (not b) (ap not (e ∙ a.kept (get_or h (p + j) 0))) z a.none;
          kept = λ x. seen-again h t n (p + j) (omega arith) (omega arith) (sym e ∙ not-false b z) x ∙ a.kept x;
        }

-- A SIDE LOOKED FOR

-- the characters before atom i are seen
pub record Found (s : Store) (h : List ℕ) (n : ℕ) (l t₀ t : List ℕ) (i : ℕ) : Type 0 where
  pub rest : any (λ x. not (seen h t₀ n x)) (letters s (drop i l)) ≡ any (λ x. not (seen h t₀ n x)) (letters s l)
  pub size : length t ≡ length t₀
  pub kept : (x : ℕ) → seen h t n x ≡ seen h t₀ n x

module _ (s : Store) (h : List ℕ) (n : ℕ) (l t₀ t : List ℕ) (i : ℕ) (a : Found s h n l t₀ t i) where
  pub found-done : length l ≤ i → Lacking h n (letters s l) t₀ t false
  unfolding any
  found-done q = record { says = sym (ap (any (λ x. not (seen h t₀ n x))) (letters-end s l i q)) ∙ a.rest; size = a.size; kept = λ z. a.kept }

  module _ (t' : List ℕ) (b : Bool) (q : i < length l) (y : Lacking h n (letters_of s (get_or l i 0)) t t' b) where
    found_at : any (λ x. not (seen h t₀ n x)) (letters s l) ≡ (b || any (λ x. not (seen h t₀ n x)) (letters s (drop (suc i) l)))
    found_at =
        sym a.rest
        ∙ ap (any (λ x. not (seen h t₀ n x))) (letters-at s l i q)
        ∙ any_append (λ x. not (seen h t₀ n x)) (letters_of s (get_or l i 0)) (letters s (drop (suc i) l))
        ∙ ap (λ (z : Bool). z || any (λ x. not (seen h t₀ n x)) (letters s (drop (suc i) l)))
        (sym (y.says ∙ any_same (λ x. not (seen h t n x)) (λ x. not (seen h t₀ n x)) (letters_of s (get_or l i 0)) (λ x. ap not (a.kept x))))

    pub found-stop : b ≡ true → Lacking h n (letters s l) t₀ t' true
    found-stop z = record { says = sym (found_at ∙ or_left b _ z); size = y.size ∙ a.size; kept = λ u. clash refl u }

    pub found-one : b ≡ false → Found s h n l t₀ t' (i + 1)
    found-one z = record { rest = rw add-one (sym (found_at ∙ rw z)); size = y.size ∙ a.size; kept = λ x. y.kept z x ∙ a.kept x }

-- ABSENT

any-bare : (p : ℕ → Bool) (l : List ℕ) → length l ≡ 0 → any p l ≡ false
unfolding any
any-bare p [] e = refl
any-bare p (x ∷ l) e = absurd (omega arith)

-- nothing is absent where there is no character
pub absent-bare : (w h : List ℕ) (c : State) (l r : List ℕ) → Texts w c → (n : ℕ) → n ≡ length (letters (termed w c) r) → n ≡ 0 → false ≡ absent (read_in w h c) l r
unfolding absent
absent-bare w h c l r x n e z =
    let s = read_in w h c in sym (right-false (fixed s l) _ (any-bare (λ y. not (is_in y (letters s l))) (letters s r) (sym (length_whole (lent w [] h [] []) c x r) ∙ sym e ∙ z)))

module _ (w h : List ℕ) (c : State) (l r : List ℕ) (x : Bool) (e : x ≡ fixed (termed w c) l) where
  pub absent-not : not x ≡ true → false ≡ absent (read_in w h c) l r
  unfolding absent fixed
  absent-not n = and-stop _ _ (failed _ x e n)

  pub absent-is : not x ≡ false → c.chars ≤ char_limit → (t t' : List ℕ) (b : Bool) → Uses c.chars (λ h. letters (read_in w h c) l) (replicate char_limit 0) t
      → Lacking h c.chars (letters (read_in w h c) r) t t' b → b ≡ absent (read_in w h c) l r
  unfolding absent fixed
  absent-is n q t t' b m k =
      and-next _ _ b (passed _ x e n)
      (k.says ∙ any_same (λ y. not (seen h t c.chars y)) (λ y. not (is_in y (letters (read_in w h c) l))) (letters (read_in w h c) r)
      (λ y. ap not (m.uses h y ∙ ap (λ (z : Bool). z || is_in y (letters (read_in w h c) l)) (seen_none h char_limit c.chars y q))))
