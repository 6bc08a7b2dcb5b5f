-- Each way through the functions that make "", take the lists flattened, and test what was lent.
use Rattle.std.specs.Prelude.{Result, Ok, Err}
use mathlib.Core.Path.{◌≡◌, refl, sym, ap, subst, ◌∙◌}
use mathlib.Core.Bool.{Bool, true, false, not}
use mathlib.Core.List.{List, [], ◌∷◌, ◌++◌}
use mathlib.Core.Logic.{inl}
use Prim.Native.Nat.{ℕ, zero, suc, ◌≤◌, ◌<◌}
use native.Mathlib.Omega.{arith}
use lib.ListN.{length, take, get_or}
use lib.Seq.{take-suc}
use Rattle.records.specs.declared.State.{State}
use Rattle.records.specs.declared.refusal.Refusal.{Refusal}
use Rattle.records.specs.Refusal.{number}
use Rattle.records.specs.Lists.{all, table}
use Rattle.records.specs.Store.{Store, Out, ok, stop, and_then, ◌>>=◌, within, is_string}
use Rattle.records.specs.View.{Lent, lent, store_of, read_in, termed}
use Rattle.records.specs.Rules.{audit, list_limit, is_list}
use Rattle.records.specs.Make.{make_constant}
use Rattle.records.specs.Working.Audited.{Ready}
use Rattle.records.specs.Calls.{made, writes_nothing}
use Rattle.records.specs.Working.Doing.{Working, CutRefused}
use Rattle.records.proofs.Lists.{table-length, both_left, both_right, both_true, every_all, every_map, all_every}
use Rattle.records.proofs.Public.{Undone, given, cut, undone-is, numbered, passed-ready, audit-idle}
use Rattle.records.proofs.IndexStores.{keeps_same}
use Rattle.records.proofs.Doing.{working_same, working_stopped, working_is, working_left}
use Rattle.records.proofs.Grown.{grown-string}
use Rattle.records.proofs.Kept.{MadeIn, made-string, constant-kept}
use Rattle.records.proofs.ListLaws.{list-strings}
use Rattle.records.proofs.Works.{stop-not}
use Rattle.records.proofs.Sequence.{made-is, made-stops}
use Rattle.normalize.specs.Normalize.{flatten}
use Rattle.normalize.specs.Calls.{first_words}
use Rattle.normalize.proofs.ListCalls.{listed-short, listed_unready, listed-unfit, listed-works}
use Rattle.wordeq.specs.Calls.{equal_arguments}
use Rattle.sides.specs.Working.Results.{BothLists}
use Rattle.sides.specs.Working.Stripping.{Readable}
use Rattle.empties.specs.Empties.{empty_against, unmet, Parts, linked, parts_of, emptied, sides, empty_parts}
use Rattle.empties.specs.Repeats.{Repeats}
use Rattle.empties.specs.declared.Empties.{Empties}
use Rattle.empties.specs.Calls.{listed, PublicEmpties}
use Rattle.empties.specs.Working.Listing.{Starts}
use Rattle.normalize.proofs.Atoms.{every_of}
use Rattle.empties.proofs.Unmet.{unmet-agree}
use Rattle.empties.proofs.Listed.{listed-worth}
use Rattle.empties.proofs.Repeating.{repeats}
use Rattle.empties.proofs.EmptyParts.{parts-stops}

-- the first words of a slice that is long enough
words-taken : (l : List ℕ) (n : ℕ) → n ≤ length l → first_words l n ≡ take n l
unfolding table
words-taken l zero h = refl
words-taken l (suc n) h = ap (λ (w : List ℕ). w ++ (get_or l n 0 ∷ [])) (words-taken l n (omega arith)) ∙ sym (take-suc l n 0 h)

-- "" MADE

abbrev onward : List ℕ → ℕ → Store → Out Parts
onward l e s = ok s (parts_of e (unmet s (e ∷ []) l))

module _ {m m₁ : Lent} {c : State} {x : Result (ℕ × State) Refusal} (l : List ℕ) (w : Working (make_constant []) m m₁ c (made x m₁)) where
  pub empties-stop : {e : Refusal} → x ≡ Err e → Working (emptied l) m m₁ c (stop (number e))
  unfolding emptied
  empties-stop e = working_stopped (ap (and_then (onward l)) (made-stops e w).says) w.kept

  module _ {t : ℕ} {d : State} (e : x ≡ Ok (t, d)) where
    empties-ready : Ready m₁ d
    empties-ready = w.ready d t (ap (λ (y : Result (ℕ × State) Refusal). made y m₁) e)

    -- the classes are those of the terms, whatever else is lent
    there : unmet (store_of m₁ d) (t ∷ []) l ≡ unmet (read_in m₁.terms m₁.chars d) (t ∷ []) l
    there = unmet-agree {P = λ u. Unit {0}} (store_of m₁ d) (read_in m₁.terms m₁.chars d) (t ∷ []) (t ∷ []) l (every_of l (λ u. tt)) (record { same = λ u i. refl; others = λ u v i j f g. refl })

    pub empties-done : {list : List ℕ} {n : ℕ} → Starts list n (unmet (read_in m₁.terms m₁.chars d) (t ∷ []) l)
        → Working (emptied l) m m₁ c (ok (store_of m₁ d) (record { empty = t; listed = first_words list n; link = linked n }))
    unfolding emptied
    empties-done {list} {n} s = working_left empties-ready
        (ap (and_then (onward l)) (made-is e w).says ∙ ap (λ (u : List ℕ). ok (store_of m₁ d) (parts_of t u)) (there ∙ sym s.words ∙ sym (words-taken list n s.fits))
        ∙ ap (λ (k : ℕ). ok (store_of m₁ d) (record { empty = t; listed = first_words list n; link = linked k })) (table-length (λ i. get_or list i 0) n))
        w.kept

    pub empties_able : Readable m₁.terms m₁.chars d
    empties_able = record { cells = m₁.cells; reasons = m₁.reasons; keys = m₁.keys; ready = empties-ready }

    module _ (ready : Ready m c) where
      empty_in : MadeIn (store_of m c) (store_of m₁ d) t 1
      unfolding all
      empty_in = (constant-kept [] (store_of m c) (store_of m₁ d) t ready.audited refl (made-is e w).says).made

      pub empties-strings : is_list (store_of m c) l ≡ true → all (is_string (read_in m₁.terms m₁.chars d)) (t ∷ l) ≡ true
      unfolding all within
      empties-strings h = both_true _ _ (made-string empty_in refl) (every_all (every_map (λ v i. grown-string empty_in.grown v i) (all_every (is_string (store_of m c)) l (list-strings (store_of m c) l h))))

-- THE TWO SIDES

module _ (m : Lent) (c : State) (l r : List ℕ) (b : Bool) (i : b ≡ empty_against (termed m.terms c) l r) where
  pub sides-left : b ≡ true → {m' : Lent} {o : Out Parts} → Working (emptied r) m m' c o → Working (sides l r) m m' c o
  unfolding sides
  sides-left h w = working_is (rw (sym i ∙ h)) w

  module _ (h : b ≡ false) (x : Bool) (j : x ≡ empty_against (termed m.terms c) r l) where
    pub sides-right : x ≡ true → {m' : Lent} {o : Out Parts} → Working (emptied l) m m' c o → Working (sides l r) m m' c o
    unfolding sides
    sides-right q w = working_is (rw (sym i ∙ h, sym j ∙ q)) w

    pub sides-none : Ready m c → x ≡ false → (k : List ℕ) → Working (sides l r) m m c (ok (store_of m c) (record { empty = 0; listed = first_words k 0; link = false }))
    unfolding sides table
    sides-none ready q k = working_same ready (rw (sym i ∙ h, sym j ∙ q))

-- FLATTENED

module _ (m : Lent) (c : State) (l r : List ℕ) where
  abbrev then : List ℕ → Store → Out Parts
  then l₁ = flatten r >>= (λ r₁. sides l₁ r₁)

  pub left-passes : flatten l (store_of m c) ≡ stop 6 → Working (empty_parts l r) m m c (stop 6)
  unfolding empty_parts
  left-passes e = working_stopped (ap (and_then then) e) keeps_same

  module _ (l₁ : List ℕ) (e : flatten l (store_of m c) ≡ ok (store_of m c) l₁) where
    pub right-passes : flatten r (store_of m c) ≡ stop 6 → Working (empty_parts l r) m m c (stop 6)
    unfolding empty_parts
    right-passes f = working_stopped (ap (and_then then) e ∙ ap (and_then (λ r₁. sides l₁ r₁)) f) keeps_same

    pub flat-done : (r₁ : List ℕ) → flatten r (store_of m c) ≡ ok (store_of m c) r₁ → {m' : Lent} {o : Out Parts} → Working (sides l₁ r₁) m m' c o → Working (empty_parts l r) m m' c o
    unfolding empty_parts
    flat-done r₁ f w = working_is (ap (and_then then) e ∙ ap (and_then (λ r₂. sides l₁ r₂)) f) w

-- THE CALL

-- an answer handed on: after a refusal the index is cut
pub undone-listed : {t t' : List ℕ} (e h r ks : List ℕ) {n : ℕ} (l : List ℕ) (x : Result Empties Refusal) {o : Result Empties Refusal} → CutRefused t t' n x o → Undone (lent t e h r ks) (lent t' e h r ks) n (listed x (lent t e h r ks) l) (listed o (lent t' e h r ks) l)
undone-listed e h r ks l (Ok a) p = given _ _ refl (rw (p.same, p.given refl)) (ap (λ (w : List ℕ). lent w e h r ks) (p.given refl))
undone-listed e h r ks l (Err j) p = cut (number j) refl (rw p.same) (p.refused refl) (record { cells = refl; chars = refl; reasons = refl; keys = refl })

module _ (l r : List ℕ) (m : Lent) (c : State) (k : List ℕ) where
  -- a refusal that writes nothing is worth nothing
  idle : {j : ℕ} {X : Type 0} → writes_nothing j → ((i : ℕ) → ◌≡◌ {A = Out Parts} (stop j) (stop i) → writes_nothing i → ⊥) → X
  idle h f = absurd (f _ refl h)

  pub parts-short : length k < list_limit → PublicEmpties l r m m k k c (stop 1)
  parts-short h = record { is = listed-short (equal_arguments l r) (empty_parts l r) m c k h; repeats = λ f. idle (inl (omega arith)) f; worth = λ s' x e. stop-not e }

  module _ (h : list_limit ≤ length k) (j : ℕ) (v : j ≡ audit m c) where
    pub parts_unready : (j ≡ 0 → ⊥) → PublicEmpties l r m m k k c (stop j)
    parts_unready d = record { is = listed_unready (equal_arguments l r) (empty_parts l r) m c k h j v d; repeats = λ f. idle (audit-idle m c j v) f; worth = λ s' x e. stop-not e }

    module _ (z : j ≡ 0) (b : Bool) (i : b ≡ equal_arguments l r (store_of m c)) where
      pub parts-unfit : b ≡ false → PublicEmpties l r m m k k c (stop 5)
      parts-unfit f = record { is = listed-unfit (equal_arguments l r) (empty_parts l r) m c k h j v z b i (ap not f); repeats = λ g. idle (inl (omega arith)) g; worth = λ s' x e. stop-not e }

      module _ (f : b ≡ true) where
        fit : equal_arguments l r (store_of m c) ≡ true
        fit = sym i ∙ f

        pub parts-ready : Ready m c
        parts-ready = passed-ready m c j v z

        pub parts-lists : BothLists (store_of m c) l r
        parts-lists = record { left = both_left (is_list (store_of m c) l) _ fit; right = both_right (is_list (store_of m c) l) _ fit }

        pub parts_called : {m₁ m' : Lent} {k' : List ℕ} {o₁ o : Out Parts} → Working (empty_parts l r) m m₁ c o₁ → Undone m₁ m' c.terms o₁ o → PublicEmpties l r m m' k k' c o
        parts_called w u = record {
          is = listed-works (equal_arguments l r) (empty_parts l r) m c k h j v z b i (ap not f) (parts-stops l r (store_of m c)) w u;
          repeats = λ q. subst (Repeats (store_of m c) l r) (w.says ∙ sym (undone-is u)) (repeats l r (store_of m c) parts-ready.audited parts-lists.left parts-lists.right);
          worth = λ s' x e. listed-worth l r (store_of m c) s' x parts-ready.audited (w.says ∙ sym (undone-is u) ∙ e);
        }

-- the same of what the audit answers as a Result
pub parts_refused : (l r : List ℕ) (m : Lent) (c : State) (k : List ℕ) → list_limit ≤ length k → (e : Refusal) → number e ≡ audit m c → PublicEmpties l r m m k k c (stop (number e))
parts_refused l r m c k h e v = parts_unready l r m c k h (number e) v (numbered e)
