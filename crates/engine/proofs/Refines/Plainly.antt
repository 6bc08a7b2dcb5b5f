-- Each way through `plain_edge` and `explain_plain`, and the walk that starts anew. The laws of a walk with a table hold for any
-- table, so one that the code does not make will do: zeros, and then the walk's own pair noted.
use Rattle.std.specs.Prelude.{Some, None, Result, Ok, Err}
use Rattle.records.specs.declared.refusal.Refusal.{Refusal}
use mathlib.Core.Path.{◌≡◌, refl, sym, ◌∙◌}
use mathlib.Core.Bool.{Bool, true, false}
use mathlib.Core.List.{List, []}
use Prim.Native.Nat.{ℕ, ◌+◌, ◌≤◌}
use native.Mathlib.Omega.{arith}
use lib.ListN.{length, replicate, length-replicate}
use Rattle.records.specs.View.{pairs_view, reason_room}
use Rattle.engine.specs.Explain.{walked}
use Rattle.engine.specs.Working.Seen.{place, seen_at, Noted}
use Rattle.engine.specs.Working.Walks.{Together, Walkable, Walks, Gives, Explained, Explainable, Plainly, PlainEdge, PlainPath, PlainPair}
use Rattle.engine.proofs.Refines.Bits.{note_set}
use Rattle.engine.proofs.Refines.Turns.{standing_on, stays-kept, stays-room, Labelled, edge-gives, edge-nothing}
use Rattle.engine.proofs.Refines.Rises.{pair_same, Rising, rising_stop, rising_done}
use Rattle.engine.proofs.Refines.Starts.{none_noted, explained-by, explainable_walk}

-- AN EDGE

module _ (terms reasons reasons' : List ℕ) {places places' : List ℕ} (node kind value count : ℕ) {slot : ℕ} (two : (1 ≤ kind) × (kind ≤ 2)) (l : Labelled terms node kind value) where
  pub plain-given : {d : ℕ} → Gives reasons reasons' places places' count kind value slot (Ok d) → Plainly (PlainEdge terms reasons reasons' node count) reasons reasons' count (Ok (Some d))
  plain-given {d} g = record { kept = g.kept; done = λ cells tab n k. edge-gives terms cells tab tab reasons reasons' n k node kind value count (Ok d) two l g (λ seen m. m) }

  pub plain-refused : {e : Refusal} → Gives reasons reasons' places places' count kind value slot (Err e) → Plainly (PlainEdge terms reasons reasons' node count) reasons reasons' count (Err e)
  plain-refused {e} g = record { kept = g.kept; done = λ cells tab n k. edge-gives terms cells tab tab reasons reasons' n k node kind value count (Err e) two l g (λ seen m. m) }

pub plain-nothing : (terms reasons : List ℕ) (node kind value count : ℕ) → kind ≡ 4 → Labelled terms node kind value
    → Plainly (PlainEdge terms reasons reasons node count) reasons reasons count (Ok (Some count))
plain-nothing terms reasons node kind value count i l = record { kept = refl; done = λ cells tab n k. edge-nothing terms cells tab reasons n k node kind value count i l }

-- A PATH

-- the loop over the edges, whatever the cells and the table
abbrev pub Walking : List ℕ → List ℕ → List ℕ → ℕ → ℕ → ℕ → ℕ → ℕ → Bool → ℕ → ℕ → Type 0
Walking terms reasons reasons' n a b m x late c c' = (cells tab : List ℕ) (k : ℕ) → Rising terms cells tab tab reasons reasons' n k a b m x late c c'

pub plain_walkable : (terms reasons : List ℕ) (n a b : ℕ) {c : ℕ} → n ≤ 512 → (p : PlainPair terms reasons n a b c) → Walkable terms p.cells (replicate 4634 0) reasons n p.k c (λ s. Together s (a, b))
plain_walkable terms reasons n a b h p = explainable_walk terms p.cells reasons n p.k a b 512 4634 h (omega arith) (omega arith) p.can

pub plain-same : (terms reasons : List ℕ) (n a b c : ℕ) → a ≡ b → Plainly (PlainPath terms reasons reasons n a b c) reasons reasons c (Ok (Some c))
plain-same terms reasons n a b c i = record {
  kept = refl;
  done = λ cells k. explained-by terms cells _ reasons reasons n k a b c 0 (Ok c) (pair_same terms cells (replicate 0 0) reasons n k a b c i);
}

-- the reasons given so far fit
pub plain-room : {terms reasons reasons₁ : List ℕ} {n a b m x c c₁ : ℕ} {late : Bool} → PlainPair terms reasons n a b c → Walking terms reasons reasons₁ n a b m x late c c₁ → c₁ ≤ reason_room reasons₁
plain-room p g = stays-room (g [] [] 0).stays p.can.roomy

-- a walk over any table that lacks the pair, and has it noted, is an explanation: a table of zeros lacks every pair
explained-alone : {terms cells reasons reasons' : List ℕ} {n k a b c : ℕ} (r : Result ℕ Refusal)
    → ((tab tab₁ : List ℕ) → false ≡ seen_at tab (place a b) → Noted tab tab₁ (place a b) → Walks (walked (a, b)) (λ s. Together s (a, b)) terms cells tab tab₁ reasons reasons' n k c r)
    → Explained terms cells reasons reasons' n k a b c r
explained-alone {n = n} {a = a} {b = b} r f =
    let at = place a b in
    let zeros : List ℕ = replicate (at + 1) 0 in
    let none = none_noted (at + 1) at in
    explained-by _ _ _ _ _ _ _ _ _ _ (at + 1) r (f zeros _ (sym none) (note_set zeros at (rw (length-replicate {A = ℕ} (at + 1) 0) (omega arith)) none))

module _ (terms reasons reasons₁ : List ℕ) (n a b m x c c₁ : ℕ) (late : Bool) (apart : a ≡ b → ⊥) (g : Walking terms reasons reasons₁ n a b m x late c c₁) where
  pub plain_done : late ≡ true → x ≡ m → Plainly (PlainPath terms reasons reasons₁ n a b c) reasons reasons₁ c (Ok (Some c₁))
  plain_done z u = record {
    kept = (g [] [] 0).stays.kept;
    done = λ cells k. explained-alone (Ok c₁) (λ tab tab₁ j d. rising_done terms cells tab tab₁ reasons n k a b c _ apart false refl j refl d tab₁ reasons₁ m x c₁ late (g cells tab₁ k) z u);
  }

  module _ (reasons₂ : List ℕ) where
    pub plain-met : pairs_view reasons₂ c₁ ≡ pairs_view reasons₁ c₁ → Plainly (PlainPath terms reasons reasons₂ n a b c) reasons reasons₂ c (Ok None)
    plain-met h = record { kept = stays-kept _ (g [] [] 0).stays h; done = tt }

    pub plain-stop : (x ≡ m → ⊥) → length reasons₂ ≡ length reasons₁ → {e : Refusal} → PlainEdge terms reasons₁ reasons₂ x c₁ (Err e)
        → Plainly (PlainPath terms reasons reasons₂ n a b c) reasons reasons₂ c (Err e)
    plain-stop u l {e} w = record {
      kept = stays-kept _ (g [] [] 0).stays (w [] [] 0 0).kept;
      done = λ cells k. explained-alone (Err e) (λ tab tab₁ j d. rising_stop terms cells tab tab₁ reasons n k a b c _ apart false refl j refl d tab₁ reasons₁ m x late c₁ (g cells tab₁ k) u tab₁ reasons₂ refl l (w cells tab₁ n k));
    }

-- ANEW

-- what was given above the count is written over
module _ (terms cells reasons reasons₁ : List ℕ) (n k a b c : ℕ) (l : length reasons₁ ≡ length reasons) where
  pub explainable_on : Explainable terms cells reasons n k a b c → Explainable terms cells reasons₁ n k a b c
  explainable_on e = record { standing = standing_on reasons₁ l e.standing; together = e.together; roomy = let h = e.roomy in omega arith }

  pub explained_anew : pairs_view reasons₁ c ≡ pairs_view reasons c → (reasons' : List ℕ) (r : Result ℕ Refusal) → Explained terms cells reasons₁ reasons' n k a b c r
      → Explained terms cells reasons reasons' n k a b c r
  explained_anew h reasons' r x = record { kept = x.kept ∙ h; comes = λ e q. rw h at (x.comes (standing_on reasons₁ l e) q) }
