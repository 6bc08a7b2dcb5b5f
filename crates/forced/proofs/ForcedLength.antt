-- What the call for the forced length gives and refuses, and what its answer is worth.
use Rattle.std.specs.Prelude.{if◌then◌else◌}
use mathlib.Core.Path.{◌≡◌, refl, sym, ap, subst, ◌∙◌}
use mathlib.Core.Bool.{Bool, true, false}
use mathlib.Core.List.{List, [], ◌∷◌, reverse}
use Prim.Native.Nat.{ℕ, ◌*◌, ◌≤◌}
use native.Mathlib.Omega.{arith}
use lib.ListN.{length, drop, length-append, length-take, length-drop, length-reverse}
use Rattle.records.specs.Lists.{all, concat_map}
use Rattle.records.specs.Store.{Store, Out, ok, stop, and_then, ◌>>=◌, give, refuse, term, text_in, text, is_constant, is_string}
use Rattle.records.specs.View.{char_limit}
use Rattle.records.specs.Rules.{list_limit}
use Rattle.records.specs.Working.Audited.{Audited}
use Rattle.records.proofs.Lists.{every_map}
use Rattle.records.proofs.Works.{stop-not, via, branch}
use Rattle.records.proofs.Grown.{Strings}
use Rattle.normalize.specs.Normalize.{atoms, flatten}
use Rattle.normalize.proofs.Atoms.{all-strings, flatten-flat, flatten-stops}
use Rattle.sides.specs.Wordeq.{letters_of, letters, variables, same_heads, same_tails, inner, rest}
use Rattle.sides.proofs.Residual.{variables-short}
use Rattle.forced.specs.Forced.{Fit, is_forced, side_fit, sides_fit, residual_fit, forced_length}
use Rattle.forced.specs.Forces.{Sums, Unfit, Few, Forces}
use Rattle.forced.proofs.Sums.{span-sums, span-few, cause_of}
use Rattle.forced.proofs.Unfit.{some_variable, Refuted, left, right}
use Rattle.forced.proofs.Refuted.{resolve_refuted}

-- two lists of the form, and what is answered for them
pub data Formed (s : Store) (l r : List ℕ) : Fit → Type 0 where
  from_left : is_forced s l r ≡ true → Formed s l r (side_fit s l r)
  from_right : is_forced s r l ≡ true → Formed s l r (side_fit s r l)

pub record Gives (l r : List ℕ) (s s' : Store) (x : Fit) : Type 0 where
  pub same_store : s' ≡ s
  pub formed : Formed s l r x

sides-give : (l r : List ℕ) (s s' : Store) (x : Fit) → sides_fit l r s ≡ ok s' x → Gives l r s s' x
unfolding sides_fit
sides-give l r s s' x e =
    branch (is_forced s l r) _ _ {s = s} (λ b d. given (side_fit s l r) (from_left b) d)
    (λ b d. branch (is_forced s r l) _ _ {s = s} (λ b₁ d₁. given (side_fit s r l) (from_right b₁) d₁) (λ b₁ d₁. stop-not d₁) d) e
  where
    given : (y : Fit) → Formed s l r y → ◌≡◌ {A = Out Fit} (ok s y) (ok s' x) → Gives l r s s' x
    given y f d = (let i : s ≡ s' = cc in let j : y ≡ x = cc in record { same_store = sym i; formed = subst (Formed s l r) j f })

module _ (l r : List ℕ) (s : Store) where
  abbrev l₁ : List ℕ
  l₁ = concat_map (atoms s) l

  abbrev r₁ : List ℕ
  r₁ = concat_map (atoms s) r

  -- the answer is that of the residual lists, and the flattened lists are short
  pub record GivesFlat (s' : Store) (x : Fit) : Type 0 where
    pub gives : Gives (rest s l₁ r₁).0 (rest s l₁ r₁).1 s s' x
    pub left_short : length l₁ ≤ list_limit
    pub right_short : length r₁ ≤ list_limit

  pub forced_gives : (s' : Store) (x : Fit) → forced_length l r s ≡ ok s' x → GivesFlat s' x
  unfolding forced_length residual_fit
  forced_gives s' x e =
      via (λ m. flatten r >>= (λ n. residual_fit m n)) (flatten l s) e (λ s₁ m c d.
      via (λ n. residual_fit m n) (flatten r s₁) d (λ s₂ n c₂ d₂.
      let a = flatten-flat l s s₁ m c in
      let b = flatten-flat r s₁ s₂ n c₂ in
      let p : s₂ ≡ s = b.same_store ∙ a.same_store in
      let q : n ≡ r₁ = b.is ∙ ap (λ (t : Store). concat_map (atoms t) r) a.same_store in
      let k = ap length a.is in
      let j = ap length q in
      let u = a.long in
      let v = b.long in
      record {
        gives = sides-give (rest s l₁ r₁).0 (rest s l₁ r₁).1 s s' x (ap (λ (w : List ℕ). residual_fit w r₁ s) (sym a.is) ∙ ap (λ (w : List ℕ). residual_fit m w s) (sym q) ∙ ap (residual_fit m n) (sym p) ∙ d₂);
        left_short = omega arith;
        right_short = omega arith;
      }))

-- it is refused with 6 or 11
pub forced-stops : (l r : List ℕ) (s : Store) (k : ℕ) → forced_length l r s ≡ stop k → 6 ≤ k
unfolding forced_length residual_fit sides_fit
forced-stops l r s k e = from (flatten l s) refl e
  where
    sided : (l₁ r₁ : List ℕ) (s₂ : Store) (a b : Bool) → (if a then give (side_fit s₂ l₁ r₁) else if b then give (side_fit s₂ r₁ l₁) else refuse 11) s₂ ≡ stop k → 6 ≤ k
    sided l₁ r₁ s₂ true b d = (let z : ◌≡◌ {A = ℕ} 0 1 = cc in absurd (omega arith))
    sided l₁ r₁ s₂ false true d = (let z : ◌≡◌ {A = ℕ} 0 1 = cc in absurd (omega arith))
    sided l₁ r₁ s₂ false false d = (let z : 11 ≡ k = cc in omega arith)

    right_stops : (l₁ : List ℕ) (s₁ : Store) (o : Out (List ℕ)) → flatten r s₁ ≡ o → and_then (λ r₁. residual_fit l₁ r₁) o ≡ stop k → 6 ≤ k
    right_stops l₁ s₁ (ok s₂ r₁) c d = sided (rest s₂ l₁ r₁).0 (rest s₂ l₁ r₁).1 s₂ (is_forced s₂ (rest s₂ l₁ r₁).0 (rest s₂ l₁ r₁).1) (is_forced s₂ (rest s₂ l₁ r₁).1 (rest s₂ l₁ r₁).0) d
    right_stops l₁ s₁ (stop j) c d = (let z : j ≡ k = cc in let y = (flatten-stops r s₁ j c).0 in omega arith)

    from : (o : Out (List ℕ)) → flatten l s ≡ o → and_then (λ l₁. flatten r >>= (λ r₁. residual_fit l₁ r₁)) o ≡ stop k → 6 ≤ k
    from (ok s₁ l₁) c d = right_stops l₁ s₁ (flatten r s₁) refl d
    from (stop j) c d = (let z : j ≡ k = cc in let y = (flatten-stops l s j c).0 in omega arith)

-- WORTH

refuted_of : {s : Store} {l r : List ℕ} {x : Fit} → Formed s l r x → Unfit x.span → Refuted s l r
refuted_of {s} {l} {r} (from_left f) u = left f (cause_of (length (variables s r)) (length (letters s r)) (length (letters s l)) u)
refuted_of {s} {l} {r} (from_right f) u = right f (cause_of (length (variables s l)) (length (letters s l)) (length (letters s r)) u)

sums-of : {s : Store} {l r : List ℕ} {x : Fit} → Formed s l r x → Sums x.k x.c x.l x.span
sums-of {s} {l} {r} (from_left f) = span-sums (length (variables s r)) (length (letters s r)) (length (letters s l)) (some_variable s l r f)
sums-of {s} {l} {r} (from_right f) = span-sums (length (variables s l)) (length (letters s l)) (length (letters s r)) (some_variable s r l f)

pub forces : (l r : List ℕ) (s : Store) → Audited s → all (is_string s) l ≡ true → all (is_string s) r ≡ true → (s' : Store) (x : Fit) → forced_length l r s ≡ ok s' x → Forces s l r x
forces l r s au hl hr s' x e = record {
  sums = sums-of formed;
  answer = λ u g. resolve_refuted l r s au (strings l hl) (strings r hr) given.left_short given.right_short (refuted_of formed u) g;
}
  where
    given : GivesFlat l r s s' x
    given = forced_gives l r s s' x e

    formed : Formed s (rest s (concat_map (atoms s) l) (concat_map (atoms s) r)).0 (rest s (concat_map (atoms s) l) (concat_map (atoms s) r)).1 x
    formed = given.gives.formed

    strings : (w : List ℕ) → all (is_string s) w ≡ true → Strings s (concat_map (atoms s) w)
    strings w h = every_map (λ a k. k.string) (all-strings s au w h)

-- FEW

inner-short : (n k : ℕ) (l : List ℕ) → length (inner n k l) ≤ length l
inner-short n k l =
    let a = length-reverse (drop k (reverse (drop n l))) in
    let b = length-drop k (reverse (drop n l)) in
    let d = length-reverse (drop n l) in
    let e = length-drop n l in
    omega arith

module _ (s : Store) where
  left-few : (l r : List ℕ) → length (rest s l r).0 ≤ length l
  unfolding rest
  left-few l r = inner-short (length (same_heads s l r)) (length (same_tails s (length (same_heads s l r)) l r)) l

  right-few : (l r : List ℕ) → length (rest s l r).1 ≤ length r
  unfolding rest
  right-few l r = inner-short (length (same_heads s l r)) (length (same_tails s (length (same_heads s l r)) l r)) r

  module _ (h : length s.chars ≤ char_limit) where
    atom-few : (a : ℕ) → length (letters_of s a) ≤ 16384
    unfolding letters_of text_in
    atom-few a = go (is_constant s a)
      where
        go : (b : Bool) → length (if b then text s a else []) ≤ 16384
        go true =
            let p = length-take (term s a).second (drop (term s a).first s.chars) in
            let q = length-drop (term s a).first s.chars in
            omega arith
        go false = omega arith

    letters-few : (l : List ℕ) → length (letters s l) ≤ 16384 * length l
    unfolding letters concat_map
    letters-few [] = omega arith
    letters-few (a ∷ l) =
        let p = length-append (letters_of s a) (concat_map (letters_of s) l) in
        let q = atom-few a in
        let e = letters-few l in
        omega arith

    sides-few : (l r : List ℕ) → length l ≤ list_limit → length r ≤ list_limit → Few (side_fit s l r)
    sides-few l r n m =
        let a = variables-short s r in
        let b = letters-few r in
        let d = letters-few l in
        record {
          k = omega arith;
          c = omega arith;
          l = omega arith;
          span = span-few (length (variables s r)) (length (letters s r)) (length (letters s l)) (omega arith) (omega arith);
        }

    formed_few : {l r : List ℕ} {x : Fit} → length l ≤ list_limit → length r ≤ list_limit → Formed s l r x → Few x
    formed_few {l} {r} n m (from_left f) = sides-few l r n m
    formed_few {l} {r} n m (from_right f) = sides-few r l m n

    pub forced_few : (l r : List ℕ) (s' : Store) (x : Fit) → forced_length l r s ≡ ok s' x → Few x
    forced_few l r s' x e =
        let g = forced_gives l r s s' x e in
        let a = left-few (concat_map (atoms s) l) (concat_map (atoms s) r) in
        let b = right-few (concat_map (atoms s) l) (concat_map (atoms s) r) in
        let p = g.left_short in
        let q = g.right_short in
        formed_few (omega arith) (omega arith) g.gives.formed
