-- Step 2 for one side's lone atom.
use Rattle.std.specs.Prelude.{if◌then◌else◌}
use mathlib.Core.Path.{◌≡◌, refl, sym, ap, ◌∙◌}
use mathlib.Core.Bool.{Bool, true, false}
use mathlib.Core.List.{List, [], ◌∷◌}
use mathlib.Core.Option.{Option, none, some}
use Prim.Native.Nat.{ℕ, ◌<◌, ◌≤◌}
use native.Mathlib.Omega.{arith}
use lib.ListN.{length, get_or}
use lib.Dec.{leb}
use borrow.Author.Tests.{eq-eqb, ne_eqb, leb-true}
use Rattle.records.specs.declared.State.{State}
use Rattle.std.specs.Prelude.{Result, Ok, Err}
use Rattle.records.specs.declared.refusal.Refusal.{Refusal}
use Rattle.records.specs.Lists.{all}
use Rattle.records.specs.Store.{Store, ok, and_then, term_in, within, class_up, is_constant, is_string}
use Rattle.records.specs.View.{Lent, lent, store_of, terms_view, termed}
use Rattle.records.specs.Working.Audited.{Ready, Closed}
use Rattle.records.specs.Calls.{added}
use Rattle.records.specs.Working.Doing.{Working}
use Rattle.records.specs.Rules.{list_limit}
use Rattle.records.proofs.Lists.{both_left, both_right, both_true, all_every, every_all, every_at, every_map}
use Rattle.records.proofs.Doing.{working_same, working_is, working_answer}
use Rattle.engine.specs.Explain.{explain, explain_arguments}
use Rattle.sides.specs.declared.StepResult.TheVariants as step
use Rattle.sides.specs.Wordeq.{conflict, pass, answer, occurrence, occurs_at, occurs}
use Rattle.sides.specs.Working.Results.{BothLists, Tries}
use Rattle.sides.specs.Working.Sides.{Texts}
use Rattle.sides.specs.Working.Occurring.{at_place}
use Rattle.sides.proofs.SideReady.{ready-read_in}
use Rattle.records.proofs.Climbs.{string-within, ready_roots}
use Rattle.records.proofs.Works.{one_store}
use Rattle.sides.proofs.Refines.Elsewhere.{place_in, place-past, occurrence-whole, occurrence-class}

unless_lone : (l o : List ℕ) (s : Store) → (length l ≡ 1 → ⊥) → occurs l o s ≡ ok s none
unfolding occurs
unless_lone [] o s n = refl
unless_lone (a ∷ []) o s n = absurd (n refl)
unless_lone (a ∷ b ∷ l) o s n = refl

lone_is : (l : List ℕ) → length l ≡ 1 → l ≡ get_or l 0 0 ∷ []
lone_is [] e = absurd (omega arith)
lone_is (a ∷ []) e = refl
lone_is (a ∷ b ∷ l) e = absurd (omega arith)

occurs-constant : (x : ℕ) (o : List ℕ) (s : Store) → is_constant s x ≡ true → occurs (x ∷ []) o s ≡ ok s none
unfolding occurs
occurs-constant x o s e = rw e

occurs-other : (x : ℕ) (o : List ℕ) (s : Store) → is_constant s x ≡ false → (y : Option ℕ) → occurrence s x [] o ≡ y → occurs (x ∷ []) o s ≡ occurs_at x y s
unfolding occurs
occurs-other x o s e y f = ap (λ (b : Bool). (if b then pass else occurs_at x (occurrence s x [] o)) s) e ∙ ap (λ (z : Option ℕ). occurs_at x z s) f

-- ONE SIDE

module _ (t e h r ks : List ℕ) (c : State) (l o : List ℕ) where
  abbrev m : Lent
  m = lent t e h r ks

  abbrev s : Store
  s = store_of m c

  passes : Ready m c → occurs l o s ≡ ok s none → Tries (occurs l o) m m c (Ok (step.Done c))
  passes d p = record { is = λ k. working_same d p }

  pub not_lone : Ready m c → (length l ≡ 1 → ⊥) → Tries (occurs l o) m m c (Ok (step.Done c))
  not_lone d n = passes d (unless_lone l o s n)

  module _ (n : length l ≡ 1) (k : ℕ) (i : k ≡ (term_in (terms_view t c.terms) (get_or l 0 0)).kind) where
    only : occurs l o s ≡ occurs (get_or l 0 0 ∷ []) o s
    only = ap (λ (z : List ℕ). occurs z o s) (lone_is l n)

    pub lone_constant : Ready m c → k ≡ 1 → Tries (occurs l o) m m c (Ok (step.Done c))
    lone_constant d j = passes d (only ∙ occurs-constant (get_or l 0 0) o s (eq-eqb (term_in (terms_view t c.terms) (get_or l 0 0)).kind 1 (sym i ∙ j)))

  module _ (d : Ready m c) (b : BothLists s l o) where
    pub texts-known : Texts t c × (length o ≤ list_limit)
    texts-known = ((ready-read_in m c d).texts, leb-true (length o) list_limit (both_left _ _ b.right))

    pub classes-known : Closed (class_up (terms_view t c.terms)) c.terms
    classes-known = ready_roots m c d.audited.classed

    pub side_within : all (within c.terms) o ≡ true
    side_within = every_all (every_map (λ a z. string-within m c a z) (all_every (is_string s) o (both_right (leb (length o) list_limit) _ b.right)))

    side_string : (p : ℕ) → p < length o → is_string s (get_or o p 0) ≡ true
    side_string p z = every_at o p 0 (all_every (is_string s) o (both_right (leb (length o) list_limit) _ b.right)) z

    lone_string : length l ≡ 1 → is_string s (get_or l 0 0) ≡ true
    lone_string n = every_at l 0 0 (all_every (is_string s) l (both_right (leb (length l) list_limit) _ b.left)) (omega arith)

    pub lone_within : length l ≡ 1 → within c.terms (get_or l 0 0) ≡ true
    lone_within n = string-within m c (get_or l 0 0) (lone_string n)

    module _ (n : length l ≡ 1) (k : ℕ) (i : k ≡ (term_in (terms_view t c.terms) (get_or l 0 0)).kind) (j : k ≡ 1 → ⊥) (p : ℕ)
        (f : occurrence (termed t c) (get_or l 0 0) [] o ≡ at_place o p) where
      found : occurrence s (get_or l 0 0) [] o ≡ at_place o p
      found = sym (occurrence-whole m c (ready-read_in m c d).texts (get_or l 0 0) [] o) ∙ f

      on : (y : Option ℕ) → at_place o p ≡ y → occurs l o s ≡ occurs_at (get_or l 0 0) y s
      on y g = only n k i ∙ occurs-other (get_or l 0 0) o s (ne_eqb (term_in (terms_view t c.terms) (get_or l 0 0)).kind 1 (λ z. j (i ∙ z))) y (found ∙ g)

      pub not_found : length o ≤ p → Tries (occurs l o) m m c (Ok (step.Done c))
      not_found z = passes d (on none (place-past o p z))

      module _ (z : p < length o) where
        pub found_arguments : explain_arguments (get_or o p 0) (get_or l 0 0) s ≡ true
        found_arguments = both_true _ _ (both_true _ _ (side_string p z) (lone_string n)) (occurrence-class s (get_or l 0 0) [] o (get_or o p 0) (found ∙ place_in o p z))

        module _ (r' : List ℕ) where
          conflicting : (y : Result State Refusal) → Working (explain (get_or o p 0) (get_or l 0 0)) m (lent t e h r' ks) c (added y (lent t e h r' ks))
              → Working (occurs l o) m (lent t e h r' ks) c (and_then (λ u. answer conflict) (added y (lent t e h r' ks)))
          conflicting y w = working_is (on (some (get_or o p 0)) (place_in o p z)) (working_answer (λ u. answer conflict) (λ u s s' x i. one_store i) w)

          pub found-conflict : (d' : State) → Working (explain (get_or o p 0) (get_or l 0 0)) m (lent t e h r' ks) c (added (Ok d') (lent t e h r' ks)) → Tries (occurs l o) m (lent t e h r' ks) c (Ok (step.Conflict d'))
          found-conflict d' w = record { is = λ q. conflicting (Ok d') w }

          pub found-refused : (q : Refusal) → Working (explain (get_or o p 0) (get_or l 0 0)) m (lent t e h r' ks) c (added (Err q) (lent t e h r' ks)) → Tries (occurs l o) m (lent t e h r' ks) c (Err q)
          found-refused q w = record { is = λ x. conflicting (Err q) w }
