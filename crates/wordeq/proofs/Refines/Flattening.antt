-- Lists flattened into slices, and the steps on them.
use mathlib.Core.Path.{◌≡◌, refl, sym, ap, subst, ◌∙◌}
use mathlib.Core.Bool.{Bool, true, false, ◌||◌}
use mathlib.Core.List.{List, [], ◌∷◌, ◌++◌, append-nil, append_assoc}
use Prim.Native.Nat.{ℕ, ◌+◌, ◌≤◌, ◌<◌}
use native.Mathlib.Omega.{arith}
use lib.ListN.{length, take, drop, get_or, length-append, length-take, length-drop}
use lib.IntN.{ℤ}
use mir.Syntax.{w32}
use mir.Val.{to_z, of_z, SFits}
use mir.ValLaws.{to_z-of_z}
use Rattle.records.specs.declared.State.{State}
use Rattle.std.specs.Prelude.{Ok}
use Rattle.records.specs.Lists.{any, concat_map}
use Rattle.records.specs.Store.{Store, Out, ok, stop, and_then, ◌>>=◌, give, is_concat}
use Rattle.records.specs.View.{Lent, store_of}
use Rattle.records.specs.Rules.{list_limit}
use Rattle.records.specs.Working.Doing.{Working}
use Rattle.records.proofs.Lists.{any_append, drop_head}
use Rattle.records.proofs.IndexStores.{keeps_same}
use Rattle.records.proofs.Doing.{working_stopped, working_at, working_is, working_answer}
use Rattle.records.proofs.Works.{one_store}
use Rattle.normalize.specs.Normalize.{atoms, flatten}
use Rattle.normalize.specs.Working.Flat.{Appended}
use Rattle.sides.specs.declared.StepResult.{StepResult}
use Rattle.sides.specs.declared.StepResult.TheVariants as step
use Rattle.sides.specs.Wordeq.{Answer, steps, softened, is_guard}
use Rattle.wordeq.specs.Calls.{resolved}
use Rattle.wordeq.specs.Working.Resolving.{soft, flat_steps, ran}

-- SOME ATOM IS A CONCATENATION

module _ (s : Store) (l r : List ℕ) (b : Bool) (e : b ≡ any (is_concat s) l) where
  pub either_left : b ≡ true → b ≡ any (is_concat s) (l ++ r)
  either_left h = h ∙ sym (any_append (is_concat s) l r ∙ ap (λ (x : Bool). x || any (is_concat s) r) (sym e ∙ h))

  pub either_right : b ≡ false → (x : Bool) → x ≡ any (is_concat s) r → x ≡ any (is_concat s) (l ++ r)
  either_right h x q = q ∙ sym (any_append (is_concat s) l r ∙ ap (λ (y : Bool). y || any (is_concat s) r) (sym e ∙ h))

-- A LIST FLATTENED

module _ (s : Store) (l out₀ : List ℕ) where
  -- the atoms of the first i terms are the first n words
  pub record Flattening (out : List ℕ) (i n : ℕ) : Type 0 where
    pub from : n ≤ list_limit
    pub words : take n out ++ concat_map (λ x. atoms s x) (drop i l) ≡ concat_map (λ x. atoms s x) l

  module _ {out : List ℕ} {i n : ℕ} (g : Flattening out i n) where
    empty : (k : List ℕ) → length k ≡ 0 → concat_map (λ x. atoms s x) k ≡ []
    unfolding concat_map
    empty [] e = refl
    empty (a ∷ k) e = absurd (omega arith)

    pub flattening_end : length l ≤ i → Appended out₀ out 0 (concat_map (atoms s) l) n
    flattening_end h =
        let k = length-drop i l in
        let z : concat_map (λ x. atoms s x) (drop i l) ≡ [] = empty (drop i l) (omega arith) in
        record {
          fits = λ j. sym (append-nil (take n out)) ∙ ap (λ (w : List ℕ). take n out ++ w) (sym z) ∙ g.words;
          passes = λ j. let f = g.from in absurd (omega arith);
        }

    module _ (h : i < length l) (out' : List ℕ) (r : ℕ) (a : Appended out out' n (atoms s (get_or l i 0)) r) where
      rest : take n out ++ (atoms s (get_or l i 0) ++ concat_map (λ x. atoms s x) (drop (i + 1) l)) ≡ concat_map (λ x. atoms s x) l
      unfolding concat_map
      rest = ap (λ (k : List ℕ). take n out ++ concat_map (λ x. atoms s x) k) (sym (drop_head l i h)) ∙ g.words

      pub flattening_turn : r ≤ list_limit → Flattening out' (i + 1) r
      flattening_turn z = record {
        from = z;
        words = rw (a.fits z) (append_assoc (take n out) (atoms s (get_or l i 0)) (concat_map (λ x. atoms s x) (drop (i + 1) l)) ∙ rest);
      }

      pub flattening_passes : list_limit ≤ length out → list_limit < r → Appended out₀ out' 0 (concat_map (atoms s) l) r
      flattening_passes b z =
          let q = ap length rest in
          let f = length-append (take n out) (atoms s (get_or l i 0) ++ concat_map (λ x. atoms s x) (drop (i + 1) l)) in
          let d = length-append (atoms s (get_or l i 0)) (concat_map (λ x. atoms s x) (drop (i + 1) l)) in
          let u = length-take n out in
          let o = a.passes z in
          let y = g.from in
          record { fits = λ j. absurd (omega arith); passes = λ j. omega arith }

-- A GUARD THAT IS PASSED ON: its bits are read back

pub guard_passed : (g : ℤ) → SFits w32 g → is_guard g ≡ true → is_guard (to_z w32 (of_z w32 g)) ≡ true
guard_passed g f e = subst (λ (z : ℤ). is_guard z ≡ true) (sym (to_z-of_z w32 g f)) e

-- THE STEPS ON FLATTENED LISTS

softened-is : (m : Lent) (k : List ℕ) (o : StepResult) → and_then (λ y. give (softened y)) (resolved (Ok o) m k) ≡ resolved (Ok (soft o)) m k
softened-is m k (step.Done d) = refl
softened-is m k (step.Saturated d) = refl
softened-is m k (step.Conflict d) = refl
softened-is m k (step.Propagate d v w f) = refl
softened-is m k (step.Split d n g j) = refl

module _ (m : Lent) (c : State) (l r : List ℕ) (g : ℤ) where
  abbrev onward : List ℕ → Store → Out Answer
  onward l₁ = flatten r >>= (λ r₁. steps g l₁ r₁ >>= (λ y. give (softened y)))

  pub left-passes : flatten l (store_of m c) ≡ stop 6 → Working (flat_steps l r g) m m c (stop 6)
  unfolding flat_steps
  left-passes e = working_stopped (ap (and_then onward) e) keeps_same

  module _ (l₁ : List ℕ) (e : flatten l (store_of m c) ≡ ok (store_of m c) l₁) where
    pub right-passes : flatten r (store_of m c) ≡ stop 6 → Working (flat_steps l r g) m m c (stop 6)
    unfolding flat_steps
    right-passes f = working_stopped (ap (and_then onward) e ∙ ap (and_then (λ r₁. steps g l₁ r₁ >>= (λ y. give (softened y)))) f) keeps_same

    module _ (z : SFits w32 g) (r₁ : List ℕ) (f : flatten r (store_of m c) ≡ ok (store_of m c) r₁) where
      -- what follows the lists
      pub flat-after : {m' : Lent} {o : Out Answer} → Working (steps (to_z w32 (of_z w32 g)) l₁ r₁) m m' c o → Working (flat_steps l r g) m m' c (and_then (λ y. give (softened y)) o)
      unfolding flat_steps
      flat-after w =
          working_is (ap (and_then onward) e ∙ ap (and_then (λ r₂. steps g l₁ r₂ >>= (λ y. give (softened y)))) f)
          (working_answer (λ y. give (softened y)) (λ y s s' x j. one_store j) {w = steps g l₁ r₁} (working_is (ap (λ (y : ℤ). steps y l₁ r₁ (store_of m c)) (sym (to_z-of_z w32 g z))) w))

      pub flat-done : {m' : Lent} (k : List ℕ) (o : StepResult) → Working (steps (to_z w32 (of_z w32 g)) l₁ r₁) m m' c (resolved (Ok o) m' k) → (x : StepResult) → x ≡ soft o → Working (flat_steps l r g) m m' c (resolved (Ok x) m' k)
      flat-done {m'} k o w x i = working_at (softened-is m' k o ∙ ap (λ (z : StepResult). resolved (Ok z) m' k) (sym i)) (flat-after w)

  module _ (b : Bool) (e : b ≡ any (is_concat (store_of m c)) (l ++ r)) where
    pub ran-flat : b ≡ true → SFits w32 g → {m' : Lent} {o : Out Answer} → Working (flat_steps l r (to_z w32 (of_z w32 g))) m m' c o → Working (ran l r g) m m' c o
    unfolding ran
    ran-flat h z w = working_is (rw (sym e ∙ h) (ap (λ (y : ℤ). flat_steps l r y (store_of m c)) (sym (to_z-of_z w32 g z)))) w

    pub ran-plain : b ≡ false → SFits w32 g → {m' : Lent} {o : Out Answer} → Working (steps (to_z w32 (of_z w32 g)) l r) m m' c o → Working (ran l r g) m m' c o
    unfolding ran
    ran-plain h z w = working_is (rw (sym e ∙ h) (ap (λ (y : ℤ). steps y l r (store_of m c)) (sym (to_z-of_z w32 g z)))) w
