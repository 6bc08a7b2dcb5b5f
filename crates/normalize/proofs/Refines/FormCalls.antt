-- Each way through the public calls of the normal forms.
use mathlib.Core.Path.{◌≡◌, refl, sym, ap, ◌∙◌}
use mathlib.Core.Bool.{Bool, true, false, not}
use mathlib.Core.List.{List}
use mathlib.Core.Option.{Option}
use Prim.Native.Nat.{ℕ, ◌≤◌, ◌<◌}
use native.Mathlib.Omega.{arith}
use lib.ListN.{length}
use borrow.Author.Tests.{not-true, not-false}
use Rattle.std.specs.Prelude.{Result, Ok, Err}
use Rattle.std.specs.Prelude as code
use Rattle.records.specs.declared.State.{State}
use Rattle.records.specs.declared.refusal.Refusal.{Refusal}
use Rattle.records.specs.Refusal.{number}
use Rattle.records.specs.Store.{Store, Out, stop, is_string}
use Rattle.records.specs.View.{Lent, lent, store_of}
use Rattle.records.specs.Rules.{audit, list_limit, is_list}
use Rattle.records.specs.Working.Audited.{Ready}
use Rattle.records.specs.Working.Doing.{Working, CutRefused}
use Rattle.records.proofs.Lists.{left_false, and-next}
use Rattle.records.proofs.Outcomes.{refused_wider}
use Rattle.records.proofs.Public.{Undone, given, cut, undone-is, passed-ready}
use Rattle.records.proofs.Works.{stop-not}
use Rattle.normalize.specs.Normalize.{normal_form, deep_form, form_arguments}
use Rattle.normalize.specs.Calls.{formed, deepened, PublicForm, PublicDeepForm}
use Rattle.normalize.proofs.ListCalls.{listed-short, listed_unready, listed-unfit, listed-works}
use Rattle.normalize.proofs.Formed.{form-stops, form-sound, form-kept}
use Rattle.normalize.proofs.Deep.{deep_stops, deep_sound, deep_kept}

-- ARGUMENTS

module _ (s : Store) (known : List ℕ) (t : ℕ) (b : Bool) (e : b ≡ is_list s known) where
  pub arguments_stop : not b ≡ true → false ≡ form_arguments known t s
  arguments_stop h = sym (left_false _ _ (sym e ∙ not-true b h))

  pub arguments_last : not b ≡ false → (r : Bool) → r ≡ is_string s t → r ≡ form_arguments known t s
  arguments_last h r q = and-next (is_list s known) (is_string s t) r (sym e ∙ not-false b h) q

-- THE TWO FORMS

-- an answer handed on: after a refusal the index is cut
module _ {t t' : List ℕ} (e h r ks : List ℕ) {n : ℕ} (l : List ℕ) where
  pub undone-form : (x : Result (ℕ × State) Refusal) {o : Result (ℕ × State) Refusal} → CutRefused t t' n x o → Undone (lent t e h r ks) (lent t' e h r ks) n (formed x (lent t e h r ks) l) (formed o (lent t' e h r ks) l)
  undone-form (Ok y) p = given _ _ refl (rw (p.same, p.given refl)) (ap (λ (w : List ℕ). lent w e h r ks) (p.given refl))
  undone-form (Err k) p = cut (number k) refl (rw p.same) (p.refused refl) (record { cells = refl; chars = refl; reasons = refl; keys = refl })

  pub undone_deep : (x : Result (code.Option ℕ × State) Refusal) {o : Result (code.Option ℕ × State) Refusal} → CutRefused t t' n x o → Undone (lent t e h r ks) (lent t' e h r ks) n (deepened x (lent t e h r ks) l) (deepened o (lent t' e h r ks) l)
  undone_deep (Ok y) p = given _ _ refl (rw (p.same, p.given refl)) (ap (λ (w : List ℕ). lent w e h r ks) (p.given refl))
  undone_deep (Err k) p = cut (number k) refl (rw p.same) (p.refused refl) (record { cells = refl; chars = refl; reasons = refl; keys = refl })

module _ (known : List ℕ) (t : ℕ) (m : Lent) (c : State) (l : List ℕ) where
  pub form-short : length l < list_limit → PublicForm known t m m l l c (stop 1)
  form-short h = record { is = listed-short (form_arguments known t) (normal_form known t) m c l h; worth = λ s' w e. stop-not e; once = λ s' w e. stop-not e }

  pub deep_short : length l < list_limit → PublicDeepForm known t m m l l c (stop 1)
  deep_short h = record { is = listed-short (form_arguments known t) (deep_form known t) m c l h; worth = λ s' w e. stop-not e; once = λ s' w e. stop-not e }

  module _ (h : list_limit ≤ length l) (k : ℕ) (v : k ≡ audit m c) where
    pub form_unready : (k ≡ 0 → ⊥) → PublicForm known t m m l l c (stop k)
    form_unready d = record { is = listed_unready (form_arguments known t) (normal_form known t) m c l h k v d; worth = λ s' w e. stop-not e; once = λ s' w e. stop-not e }

    pub deep_unready : (k ≡ 0 → ⊥) → PublicDeepForm known t m m l l c (stop k)
    deep_unready d = record { is = listed_unready (form_arguments known t) (deep_form known t) m c l h k v d; worth = λ s' w e. stop-not e; once = λ s' w e. stop-not e }

    module _ (z : k ≡ 0) (b : Bool) (e : b ≡ form_arguments known t (store_of m c)) where
      pub form-unfit : b ≡ false → PublicForm known t m m l l c (stop 5)
      form-unfit g = record { is = listed-unfit (form_arguments known t) (normal_form known t) m c l h k v z b e (ap not g); worth = λ s' w q. stop-not q; once = λ s' w q. stop-not q }

      pub deep_unfit : b ≡ false → PublicDeepForm known t m m l l c (stop 5)
      deep_unfit g = record { is = listed-unfit (form_arguments known t) (deep_form known t) m c l h k v z b e (ap not g); worth = λ s' w q. stop-not q; once = λ s' w q. stop-not q }

      module _ (g : b ≡ true) where
        pub form-ready : Ready m c
        form-ready = passed-ready m c k v z

        pub form-fit : form_arguments known t (store_of m c) ≡ true
        form-fit = sym e ∙ g

        pub form_called : {m₁ m' : Lent} {l' : List ℕ} {r₁ r : Out (List ℕ)} → Working (normal_form known t) m m₁ c r₁ → Undone m₁ m' c.terms r₁ r → PublicForm known t m m' l l' c r
        form_called w u = record {
          is = listed-works (form_arguments known t) (normal_form known t) m c l h k v z b e (ap not g) (λ j q. refused_wider (omega arith) (form-stops known t (store_of m c) form-ready.audited form-fit j q)) w u;
          worth = λ s' x q. form-sound known t (store_of m c) form-ready.audited form-fit s' x (w.says ∙ sym (undone-is u) ∙ q);
          once = λ s' x q. (form-kept known t (store_of m c) form-ready.audited form-fit s' x (w.says ∙ sym (undone-is u) ∙ q)).reasons;
        }

        pub deep_called : {m₁ m' : Lent} {l' : List ℕ} {r₁ r : Out (Option (List ℕ))} → Working (deep_form known t) m m₁ c r₁ → Undone m₁ m' c.terms r₁ r → PublicDeepForm known t m m' l l' c r
        deep_called w u = record {
          is = listed-works (form_arguments known t) (deep_form known t) m c l h k v z b e (ap not g) (λ j q. refused_wider (omega arith) (deep_stops known t (store_of m c) form-ready.audited form-fit j q)) w u;
          worth = λ s' x q. deep_sound known t (store_of m c) form-ready.audited form-fit s' x (w.says ∙ sym (undone-is u) ∙ q);
          once = λ s' x q. (deep_kept known t (store_of m c) form-ready.audited form-fit s' x (w.says ∙ sym (undone-is u) ∙ q)).reasons;
        }
