-- Joining and undoing over words: what each call asks, and what the last one leaves.
use mathlib.Core.Path.{◌≡◌, refl, sym, ap, subst, ◌∙◌}
use mathlib.Core.Bool.{Bool, true, false, not, ◌&&◌}
use mathlib.Core.List.{List}
use mathlib.Core.Option.{Option, none}
use Prim.Native.Nat.{ℕ, suc, ◌≤◌}
use native.Mathlib.Omega.{arith}
use lib.ListN.{length}
use lib.Dec.{eqb}
use Rattle.records.specs.Store.{Term, within, climb, class_up, forest_up, root_in}
use Rattle.records.specs.View.{term_at, terms_view, term_words}
use Rattle.records.specs.Make.{with_class}
use Rattle.records.specs.Working.Audited.{Closed}
use Rattle.records.specs.Working.Puts.{TermSet}
use Rattle.records.proofs.Lists.{within-high, both_left, both_right, and-stop, and-next}
use Rattle.records.proofs.IndexStores.{left-none}
use Rattle.records.proofs.Climbs.{climb-within, view_count, view_class, view_forest}
use Rattle.classes.specs.Joins.{Trace, cut_in, edge, no_edge, bearing, put_edge, put_class, reroot_in, link_in, join_in, trace, is_trace, undo_in}
use Rattle.classes.specs.Working.Carries.{Forest, carry_by, TermsBecome, Carriable, Tabled, Linkable, Cuttable, Undoes, undone, no_table}
use Rattle.classes.proofs.Undoing.{class-forest}
use Rattle.classes.proofs.Cutting.{Traced, trace-says, undo-is, cut-forest, cut-kept, cut-stays}
use Rattle.classes.proofs.Refines.Carrying.{carry_link, carry_reroot}
use Rattle.classes.proofs.Refines.CarryWords.{edge-becomes, class-becomes, becomes-then}

-- n terms of a view, counted either way
pub in_view : (l : List ℕ) (n t : ℕ) → within n t ≡ true → within (length (terms_view l n)) t ≡ true
in_view l n t w = ap (λ (m : ℕ). within m t) (view_count l n) ∙ w

counted : (ts : List Term) (n : ℕ) → length ts ≡ n → Closed (forest_up ts) (length ts) → Closed (forest_up ts) n
counted ts n e c = subst (Closed (forest_up ts)) e c

-- a record of a table is within the slice
pub tabled-room : (l : List ℕ) (n t : ℕ) → Tabled l n → within n t ≡ true → term_words t ≤ length l
tabled-room l n t h w = let q = within-high n t w in let r = h.room in omega arith

-- JOINING

module _ (l : List ℕ) (n a b under over : ℕ) (h : Linkable l n a b under over) where
  under-within : within n under ≡ true
  under-within =
      subst (λ (z : ℕ). within n z ≡ true) (sym (h.under_is ∙ ap (λ (m : ℕ). climb (class_up (terms_view l n)) m a) (view_count l n)))
      (climb-within (class_up (terms_view l n)) n n a h.tabled.classes h.one)

  pub under-room : term_words under ≤ length l
  under-room = tabled-room l n under h.tabled under-within

  module _ (l₁ : List ℕ) (s : TermSet l l₁ under (with_class (term_at l under) over)) where
    put : TermsBecome l l₁ n (put_class (terms_view l n) under over)
    put = class-becomes n under-within over s

    forest₁ : Forest (terms_view l₁ n)
    forest₁ = subst Forest (sym put.is) (class-forest (terms_view l n) under over (in_view l n under under-within) h.tabled.forest)

    pub carry_asked : Carriable l₁ n a b
    carry_asked = record {
      few = h.tabled.few;
      room = (let q = put.long in let r = h.tabled.room in omega arith);
      here = h.one;
      over = h.other;
      closed = counted (terms_view l₁ n) n (view_count l₁ n) forest₁.closed;
    }

    pub link-leaves : (l₂ : List ℕ) (k v : ℕ) → TermsBecome l₁ l₂ n (carry_by (suc n) (terms_view l₁ n) a (edge b k v 0)) → TermsBecome l l₂ n (join_in (terms_view l n) a b k v)
    unfolding join_in
    link-leaves l₂ k v q =
        subst (TermsBecome l l₂ n)
        (ap (λ (m : ℕ). carry_by (suc m) (terms_view l₁ n) a (edge b k v 0)) (sym (view_count l₁ n)) ∙ carry_link (terms_view l₁ n) forest₁ a (in_view l₁ n a h.one) b k v
        ∙ ap (λ (ts : List Term). link_in ts a b k v) put.is ∙ ap (λ (z : ℕ). link_in (put_class (terms_view l n) z over) a b k v) h.under_is
        ∙ ap (λ (z : ℕ). link_in (put_class (terms_view l n) (root_in (terms_view l n) a) z) a b k v) h.over_is)
        (becomes-then put q)

-- CUTTING

module _ (l : List ℕ) (n c r u : ℕ) (h : Cuttable l n (trace c r u)) where
  pub edge-room : term_words c ≤ length l
  edge-room = tabled-room l n c h.tabled h.child

  module _ (l₁ : List ℕ) (s : TermSet l l₁ c (bearing (term_at l c) (no_edge c))) where
    cut : TermsBecome l l₁ n (put_edge (terms_view l n) c (no_edge c))
    cut = edge-becomes n h.child (no_edge c) s

    cut-is : Forest (terms_view l₁ n)
    cut-is = subst Forest (sym cut.is) (cut-forest (terms_view l n) h.tabled.forest c (in_view l n c h.child))

    pub reroot_asked : Carriable l₁ n r r
    reroot_asked = record {
      few = h.tabled.few;
      room = (let q = cut.long in let z = h.tabled.room in omega arith);
      here = h.old_root;
      over = h.old_root;
      closed = counted (terms_view l₁ n) n (view_count l₁ n) cut-is.closed;
    }

    module _ (l₂ : List ℕ) (q : TermsBecome l₁ l₂ n (carry_by (suc n) (terms_view l₁ n) r (no_edge r))) where
      pub class-asked : term_words u ≤ length l₂
      class-asked = let w = within-high n u h.under in let x = h.tabled.room in let y = cut.long in let z = q.long in omega arith

      pub cut-leaves : (l₃ : List ℕ) → TermSet l₂ l₃ u (with_class (term_at l₂ u) u) → TermsBecome l l₃ n (cut_in (terms_view l n) (trace c r u))
      cut-leaves l₃ k =
          subst (TermsBecome l l₃ n)
          (ap (λ (ts : List Term). put_class ts u u)
          (q.is ∙ ap (λ (m : ℕ). carry_by (suc m) (terms_view l₁ n) r (no_edge r)) (sym (view_count l₁ n)) ∙ carry_reroot (terms_view l₁ n) cut-is r (in_view l₁ n r h.old_root) ∙ ap (λ (ts : List Term). reroot_in ts r) cut.is))
          (becomes-then cut (becomes-then q (class-becomes n h.under u k)))

-- UNDOING

module _ (l : List ℕ) (n child old under : ℕ) where
  abbrev ts : List Term
  ts = terms_view l n

  abbrev x : Trace
  x = trace child old under

  abbrev fourth : Bool
  fourth = not (eqb (forest_up ts child) child)

  abbrev fifth : Bool
  fifth = not (eqb (class_up ts under) under)

  -- three terms, and an edge on the child: all of the test but the last
  abbrev three_terms : Bool
  three_terms = within n child && within n old && within n under

  abbrev pub edged : Bool
  edged = three_terms && fourth

  the-test : edged && fifth ≡ is_trace ts x
  unfolding is_trace
  the-test = ap (λ (m : ℕ). within m child && within m old && within m under && fourth && fifth) (sym (view_count l n))

  module _ (v : Bool) (e : v ≡ three_terms) where
    pub trace-uncounted : v ≡ false → v ≡ edged
    trace-uncounted h = h ∙ and-stop three_terms fourth (sym e ∙ h)

    pub trace-edge : v ≡ true → (y : ℕ) → y ≡ (term_at l child).forest_parent → not (eqb y child) ≡ edged
    trace-edge h y f =
        let c = sym e ∙ h in
        let w = both_left (within n child) _ (both_left (within n child && within n old) _ c) in
        and-next three_terms fourth _ c (ap (λ (z : ℕ). not (eqb z child)) (view_forest l n child y w f))

    pub trace-not : (w : Bool) → w ≡ edged → w ≡ false → w ≡ is_trace ts x
    trace-not w q h = h ∙ and-stop edged fifth (sym q ∙ h) ∙ the-test

    pub trace-last : (w : Bool) → w ≡ edged → w ≡ true → (z : ℕ) → z ≡ (term_at l under).class_parent → not (eqb z under) ≡ is_trace ts x
    trace-last w q h z g =
        let t = sym q ∙ h in
        let u = both_right (within n child && within n old) _ (both_left three_terms fourth t) in
        and-next edged fifth _ t (ap (λ (c : ℕ). not (eqb c under)) (view_class l n under z u g)) ∙ the-test

  module _ (b : Bool) (e : b ≡ is_trace ts x) where
    none_is : b ≡ false → undo_in ts x ≡ none
    unfolding undo_in
    none_is h = rw (sym e ∙ h)

    pub undo-not : b ≡ false → Tabled l n → Undoes l l n (undo_in ts x) false
    undo-not h d = subst (λ (o : Option (List Term)). Undoes l l n o false) (sym (none_is h)) (no_table (record { long = refl; away = λ t w. refl; is = refl; index = left-none }) d)

    module _ (h : b ≡ true) (d : Tabled l n) where
      traced : Traced ts x
      traced = trace-says ts x (sym e ∙ h)

      uncounted : (t : ℕ) → within (length ts) t ≡ true → within n t ≡ true
      uncounted t w = ap (λ (m : ℕ). within m t) (sym (view_count l n)) ∙ w

      pub undo-asked : Cuttable l n x
      undo-asked = record { tabled = d; child = uncounted child traced.child; old_root = uncounted old traced.old_root; under = uncounted under traced.under }

      pub undo-done : (l' : List ℕ) → TermsBecome l l' n (cut_in ts x) → Undoes l l' n (undo_in ts x) true
      undo-done l' q = subst (λ (o : Option (List Term)). Undoes l l' n o true) (sym (undo-is ts (cut_in ts x) x record { traced = traced; is = refl })) (undone q record {
        few = d.few;
        room = (let z = q.long in let r = d.room in omega arith);
        classes = subst (λ (us : List Term). Closed (class_up us) n) (sym q.is) (subst (Closed (class_up (cut_in ts x))) (view_count l n)
            (cut-stays ts x d.forest traced.child traced.old_root traced.under (subst (Closed (class_up ts)) (sym (view_count l n)) d.classes)));
        forest = subst Forest (sym q.is) (cut-kept ts x d.forest traced.child traced.old_root traced.under);
      })
