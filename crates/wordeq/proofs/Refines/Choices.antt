-- Step 4 as a sequence: where its tests lead.
use mathlib.Core.Path.{◌≡◌, refl, sym, ap, ◌∙◌}
use mathlib.Core.Bool.{Bool, true, false, ◌&&◌}
use mathlib.Core.List.{List, [], ◌∷◌}
use mathlib.Core.Option.{none, some}
use Prim.Native.Nat.{ℕ}
use native.Mathlib.Omega.{arith}
use lib.ListN.{length, get_or}
use lib.Dec.{eqb, leb}
use borrow.Author.Tests.{eqb-true, le-leb}
use Rattle.records.specs.declared.State.{State}
use Rattle.std.specs.Prelude.{Result, Ok}
use Rattle.records.specs.declared.refusal.Refusal.{Refusal}
use Rattle.records.specs.Lists.{all}
use Rattle.records.specs.Store.{Store, ok, and_then, is_variable}
use Rattle.records.specs.View.{Lent, store_of, read_in, termed}
use Rattle.records.specs.Make.{make_constant}
use Rattle.records.specs.Working.Audited.{Ready}
use Rattle.records.proofs.Lists.{both_left, both_right, both_true}
use Rattle.records.proofs.Doing.{working_same, working_is}
use Rattle.sides.specs.declared.StepResult.{StepResult}
use Rattle.sides.specs.declared.StepResult.TheVariants as step
use Rattle.sides.specs.Wordeq.{propagate, Tried, answer, fixed, letters, is_plain, alias, empties, assigns, ◌or_else◌}
use Rattle.sides.specs.Working.Results.{Tries}
use Rattle.wordeq.specs.Working.Propagates.{aliased, emptied, assigned}
use Rattle.sides.proofs.Orelse.{else_after, else_answer, else_made, else_none}
use Rattle.wordeq.proofs.Refines.Propagate.{emptied-parts}

-- WHAT THE TESTS SAY OF THE LISTS

lone : (l : List ℕ) → length l ≡ 1 → l ≡ get_or l 0 0 ∷ []
lone [] h = absurd (omega arith)
lone (a ∷ []) h = refl
lone (a ∷ b ∷ l) h = absurd (omega arith)

bare : (l : List ℕ) → length l ≡ 0 → l ≡ []
bare [] h = refl
bare (a ∷ l) h = absurd (omega arith)

module _ (s : Store) (l r : List ℕ) (x : Bool) (t : x ≡ true) where
  pub aliased-lengths : x ≡ aliased s l r → (length l ≡ 1) × (length r ≡ 1)
  aliased-lengths i =
      let h : aliased s l r ≡ true = sym i ∙ t in
      let k = both_left (eqb (length l) 1 && eqb (length r) 1) (is_plain s (get_or l 0 0)) (both_left _ (is_plain s (get_or r 0 0)) h) in
      (eqb-true _ _ (both_left (eqb (length l) 1) (eqb (length r) 1) k), eqb-true _ _ (both_right (eqb (length l) 1) (eqb (length r) 1) k))

  pub aliased-plain : x ≡ aliased s l r → is_plain s (get_or l 0 0) && is_plain s (get_or r 0 0) ≡ true
  aliased-plain i =
      let h : aliased s l r ≡ true = sym i ∙ t in
      both_true _ _ (both_right (eqb (length l) 1 && eqb (length r) 1) (is_plain s (get_or l 0 0)) (both_left _ (is_plain s (get_or r 0 0)) h)) (both_right (eqb (length l) 1 && eqb (length r) 1 && is_plain s (get_or l 0 0)) (is_plain s (get_or r 0 0)) h)

  pub emptied-bare : x ≡ emptied s l r → emptied s [] r ≡ true
  emptied-bare i = let p = emptied-parts s l r (sym i ∙ t) in rw (le-leb 2 (length r) p.1) p.2

  pub assigned-length : x ≡ assigned s l r → length l ≡ 1
  assigned-length i =
      let h : assigned s l r ≡ true = sym i ∙ t in
      eqb-true _ _ (both_left (eqb (length l) 1) (is_variable s (get_or l 0 0)) (both_left _ (fixed s r) h))

  pub assigned-both : x ≡ assigned s l r → is_variable s (get_or l 0 0) && fixed s r ≡ true
  assigned-both i =
      let h : assigned s l r ≡ true = sym i ∙ t in
      both_true _ _ (both_right (eqb (length l) 1) (is_variable s (get_or l 0 0)) (both_left _ (fixed s r) h)) (both_right (eqb (length l) 1 && is_variable s (get_or l 0 0)) (fixed s r) h)

-- EACH WAY

module _ (s : Store) where
  alias_lone : (l r : List ℕ) → length l ≡ 1 → length r ≡ 1 → is_plain s (get_or l 0 0) && is_plain s (get_or r 0 0) ≡ true → alias l r s ≡ ok s (some (propagate (get_or l 0 0) (get_or r 0 0) false))
  unfolding alias
  alias_lone [] r p q h = absurd (omega arith)
  alias_lone (a ∷ []) [] p q h = absurd (omega arith)
  alias_lone (a ∷ []) (b ∷ []) p q h = rw h
  alias_lone (a ∷ []) (b ∷ d ∷ r) p q h = absurd (omega arith)
  alias_lone (a ∷ b ∷ l) r p q h = absurd (omega arith)

  alias-none : (l r : List ℕ) → aliased s l r ≡ false → alias l r s ≡ ok s none
  unfolding alias
  alias-none [] r h = refl
  alias-none (a ∷ []) [] h = refl
  alias-none (a ∷ []) (b ∷ []) h = let q : is_plain s a && is_plain s b ≡ false = h in rw q
  alias-none (a ∷ []) (b ∷ d ∷ r) h = refl
  alias-none (a ∷ b ∷ l) r h = refl

  last-false : (x y z : Bool) → x ≡ true → y ≡ true → x && y && z ≡ false → z ≡ false
  last-false x y z p q h = rw (p, q) at h

  empties-none : (l r : List ℕ) → emptied s l r ≡ false → empties l r s ≡ ok s none
  unfolding empties
  empties-none [] [] h = refl
  empties-none [] (a ∷ []) h = refl
  empties-none [] (a ∷ b ∷ r) h =
      let q : all (is_variable s) (a ∷ b ∷ r) ≡ false = last-false (eqb 0 0) (leb 2 (length (a ∷ b ∷ r))) _ refl (le-leb 2 (length (a ∷ b ∷ r)) (omega arith)) h in rw q
  empties-none (x ∷ l) r h = refl

  assigns-none : (l r : List ℕ) → assigned s l r ≡ false → assigns l r s ≡ ok s none
  unfolding assigns
  assigns-none [] r h = refl
  assigns-none (a ∷ []) r h = let q : is_variable s a && fixed s r ≡ false = h in rw q
  assigns-none (a ∷ b ∷ l) r h = refl

  assigns_lone : (l r : List ℕ) → length l ≡ 1 → is_variable s (get_or l 0 0) && fixed s r ≡ true → assigns l r s ≡ and_then (λ w. answer (propagate (get_or l 0 0) w false)) (make_constant (letters s r) s)
  unfolding assigns
  assigns_lone [] r p h = absurd (omega arith)
  assigns_lone (a ∷ []) r p h = rw h
  assigns_lone (a ∷ b ∷ l) r p h = absurd (omega arith)

empties-never : (l r : List ℕ) → (length l ≡ 0 → ⊥) → (s : Store) → empties l r s ≡ ok s none
unfolding empties
empties-never [] r n s = absurd (n refl)
empties-never (a ∷ l) r n s = refl

assigns-never : (l r : List ℕ) → (length l ≡ 1 → ⊥) → (s : Store) → assigns l r s ≡ ok s none
unfolding assigns
assigns-never [] r n s = refl
assigns-never (a ∷ []) r n s = absurd (n refl)
assigns-never (a ∷ b ∷ l) r n s = refl

-- THE SEQUENCE

module _ (m : Lent) (c : State) (l r : List ℕ) where
  abbrev now : Store
  now = store_of m c

  abbrev first : Tried
  first = alias l r

  abbrev second : Tried
  second = first or_else empties l r

  abbrev third : Tried
  third = second or_else empties r l

  abbrev fourth : Tried
  fourth = third or_else assigns l r

  abbrev whole : Tried
  whole = fourth or_else assigns r l

  alias-same : aliased (read_in m.terms m.chars c) l r ≡ aliased now l r
  unfolding is_plain
  alias-same = refl

  module _ (x : Bool) (i : x ≡ aliased (read_in m.terms m.chars c) l r) where
    pub choice_alias : Ready m c → x ≡ true → Tries whole m m c (Ok (step.Propagate c (get_or l 0 0) (get_or r 0 0) false))
    choice_alias d t =
        let e = i ∙ alias-same in
        let n = aliased-lengths now l r x t e in
        let a = alias_lone now l r n.0 n.1 (aliased-plain now l r x t e) in
        record { is = λ k. working_same d (else_answer fourth (assigns r l) now (else_answer third (assigns l r) now (else_answer second (empties r l) now (else_answer first (empties l r) now a)))) }

    module _ (t : x ≡ false) (y : Bool) (f : y ≡ emptied (termed m.terms c) l r) where
      to_second : second now ≡ empties l r now
      to_second = else_after first (empties l r) now (alias-none now l r (sym (i ∙ alias-same) ∙ t))

      pub choice_left : y ≡ true → {m₁ : Lent} {o : Result StepResult Refusal} → Tries (empties [] r) m m₁ c o → Tries whole m m₁ c o
      choice_left g w =
          let p = emptied-parts now l r (sym f ∙ g) in
          let a = p.0 in
          let b = p.1 in
          record {
            is = λ k. working_is (else_none fourth (assigns r l) now (assigns-never r l (λ z. omega arith))
                ∙ else_none third (assigns l r) now (assigns-never l r (λ z. omega arith))
                ∙ else_none second (empties r l) now (empties-never r l (λ z. omega arith))
                ∙ to_second ∙ ap (λ (j : List ℕ). empties j r now) (bare l a)) (w.is k);
          }

      module _ (g : y ≡ false) (y₁ : Bool) (f₁ : y₁ ≡ emptied (termed m.terms c) r l) where
        to_third : third now ≡ empties r l now
        to_third = else_after second (empties r l) now (to_second ∙ empties-none now l r (sym f ∙ g))

        pub choice_right : y₁ ≡ true → {m₁ : Lent} {o : Result StepResult Refusal} → Tries (empties [] l) m m₁ c o → Tries whole m m₁ c o
        choice_right g₁ w =
            let p = emptied-parts now r l (sym f₁ ∙ g₁) in
            let a = p.0 in
            let b = p.1 in
            record {
              is = λ k. working_is (else_none fourth (assigns r l) now (assigns-never r l (λ z. omega arith))
                  ∙ else_none third (assigns l r) now (assigns-never l r (λ z. omega arith))
                  ∙ to_third ∙ ap (λ (j : List ℕ). empties j l now) (bare r a)) (w.is k);
            }

        module _ (g₁ : y₁ ≡ false) (u : Bool) (j : u ≡ assigned (termed m.terms c) l r) where
          to_fourth : fourth now ≡ assigns l r now
          to_fourth = else_after third (assigns l r) now (to_third ∙ empties-none now r l (sym f₁ ∙ g₁))

          left_same : assigned (termed m.terms c) l r ≡ assigned now l r
          unfolding fixed
          left_same = refl

          right_same : assigned (termed m.terms c) r l ≡ assigned now r l
          unfolding fixed
          right_same = refl

          pub choice_first : u ≡ true → {m₁ : Lent} {o : Result StepResult Refusal} → Tries (assigns (get_or l 0 0 ∷ []) r) m m₁ c o → Tries whole m m₁ c o
          choice_first h w =
              let n = assigned-length now l r u h (j ∙ left_same) in
              let b = assigned-both now l r u h (j ∙ left_same) in
              record {
                is = λ k. working_is (else_made fourth (assigns r l) now (make_constant (letters now r) now) (λ a. propagate (get_or l 0 0) a false) (to_fourth ∙ assigns_lone now l r n b)
                    ∙ to_fourth ∙ ap (λ (z : List ℕ). assigns z r now) (lone l n)) (w.is k);
              }

          module _ (h : u ≡ false) (v : Bool) (q : v ≡ assigned (termed m.terms c) r l) where
            to_whole : whole now ≡ assigns r l now
            to_whole = else_after fourth (assigns r l) now (to_fourth ∙ assigns-none now l r (sym (j ∙ left_same) ∙ h))

            pub choice_last : v ≡ true → {m₁ : Lent} {o : Result StepResult Refusal} → Tries (assigns (get_or r 0 0 ∷ []) l) m m₁ c o → Tries whole m m₁ c o
            choice_last z w =
                let n = assigned-length now r l v z (q ∙ right_same) in record { is = λ k. working_is (to_whole ∙ ap (λ (z : List ℕ). assigns z l now) (lone r n)) (w.is k) }

            pub choice_none : Ready m c → v ≡ false → Tries whole m m c (Ok (step.Done c))
            choice_none d z = record { is = λ k. working_same d (to_whole ∙ assigns-none now r l (sym (q ∙ right_same) ∙ z)) }
