-- Terms appended since a join stay as they are when it is undone.
use mathlib.Core.Path.{◌≡◌, refl, sym, ap, ◌∙◌}
use mathlib.Core.Bool.{Bool, true, false}
use mathlib.Core.List.{List, ◌∷◌, ◌++◌}
use mathlib.Core.Option.{some}
use Prim.Native.Nat.{ℕ, ◌-◌}
use native.Mathlib.Omega.{arith}
use lib.ListN.{length, set, length-append, get_or-append}
use lib.Seq.{set-append_left}
use lib.Dec.{eqb}
use Rattle.records.specs.Store.{Term, no_term, term_in, within, forest_up, above_in}
use Rattle.records.specs.Working.Audited.{Closed}
use Rattle.records.proofs.Lists.{within_low, within-high, within-is}
use Rattle.records.proofs.Rises.{Rise, ends, goes, rise-by}
use Rattle.records.proofs.Append.{above_same}
use Rattle.records.specs.Make.{with_class}
use Rattle.classes.specs.Joins.{Edge, no_edge, turned, bearing, put_edge, put_class, turn, turns, reroot_in, Trace, cut_in, undo_in}
use Rattle.classes.specs.Working.Carries.{Forest}
use Rattle.classes.proofs.Tables.{edge-long}
use Rattle.classes.proofs.Turning.{turned-way}
use Rattle.classes.proofs.Undoing.{rerooted}
use Rattle.classes.proofs.Cutting.{Traced, undo_cuts, undo-is, cut-forest}

-- ONE RECORD

module _ (ts more : List Term) (t : ℕ) where
  within_more : within (length ts) t ≡ true → within (length (ts ++ more)) t ≡ true
  within_more w = let l = within_low (length ts) t w in let h = within-high (length ts) t w in let e = length-append ts more in within-is (length (ts ++ more)) t l (omega arith)

  term-more : within (length ts) t ≡ true → term_in (ts ++ more) t ≡ term_in ts t
  unfolding term_in
  term-more w = let h = within-high (length ts) t w in get_or-append (no_term ∷ ts) more no_term t (omega arith)

  set_more : (x : Term) → within (length ts) t ≡ true → set (ts ++ more) (t - 1) x ≡ set ts (t - 1) x ++ more
  set_more x w = let l = within_low (length ts) t w in let h = within-high (length ts) t w in set-append_left ts more (t - 1) x (omega arith)

  edge_more : (e : Edge) → within (length ts) t ≡ true → put_edge (ts ++ more) t e ≡ put_edge ts t e ++ more
  unfolding put_edge
  edge_more e w = ap (λ (y : Term). set (ts ++ more) (t - 1) (bearing y e)) (term-more w) ∙ set_more _ w

  class-more : (p : ℕ) → within (length ts) t ≡ true → put_class (ts ++ more) t p ≡ put_class ts t p ++ more
  unfolding put_class
  class-more p w = ap (λ (y : Term). set (ts ++ more) (t - 1) (with_class y p)) (term-more w) ∙ set_more _ w

-- EDGES TURNED

turn_more : (ts more : List Term) (t : ℕ) → Closed (forest_up ts) (length ts) → within (length ts) t ≡ true → turn t (ts ++ more) ≡ turn t ts ++ more
unfolding turn
turn_more ts more t c w =
    ap (λ (y : Term). elim (eqb y.forest_parent t) [ true ↦ ts ++ more | false ↦ put_edge (put_edge (ts ++ more) y.forest_parent (turned t y)) t (no_edge t) ]) (term-more ts more t w)
    ∙ go (eqb (forest_up ts t) t)
  where
    go : (b : Bool) → ◌≡◌ {A = List Term} (elim b [ true ↦ ts ++ more | false ↦ put_edge (put_edge (ts ++ more) (forest_up ts t) (turned t (term_in ts t))) t (no_edge t) ])
        (elim b [ true ↦ ts | false ↦ put_edge (put_edge ts (forest_up ts t) (turned t (term_in ts t))) t (no_edge t) ] ++ more)
    go true = refl
    go false =
        ap (λ (us : List Term). put_edge us t (no_edge t)) (edge_more ts more (forest_up ts t) _ (c.stays t w))
        ∙ edge_more (put_edge ts (forest_up ts t) _) more t _ (ap (λ (n : ℕ). within n t) (edge-long ts (forest_up ts t) _) ∙ w)

turns_more : {ts : List Term} {t : ℕ} {l : List ℕ} (more : List Term) → Forest ts → within (length ts) t ≡ true → Rise ts t l → turns l (ts ++ more) ≡ turns l ts ++ more
unfolding turns
turns_more {ts} {t} more f w (ends e) = turn_more ts more t f.closed w
turns_more {ts} {t} more f w (goes {l = l} d r) =
    let wp = f.closed.stays t w in
    let k = turned-way ts f.closed f.unlabelled r wp in
    ap (turn t) (turns_more more f wp r) ∙ turn_more (turns l ts) more t k.closed (ap (λ (n : ℕ). within n t) k.long ∙ w)

reroot_more : (ts more : List Term) → Forest ts → (t : ℕ) → within (length ts) t ≡ true → reroot_in (ts ++ more) t ≡ reroot_in ts t ++ more
reroot_more ts more f t w = ap (λ (l : List ℕ). turns l (ts ++ more)) above ∙ turns_more more f w (rise-by ts (length ts) t (f.ended t w))
  where
    above : above_in (ts ++ more) t ≡ above_in ts t
    above =
        above_same ts (ts ++ more) (length ts) f.closed (λ u h. ap (λ (y : Term). y.forest_parent) (term-more ts more u h)) (length ts) (length (ts ++ more)) (length ts) t w (f.ended t w)
        (let e = length-append ts more in omega arith) (omega arith)

-- UNDOING

module _ (ts more : List Term) (f : Forest ts) (x : Trace) (h : Traced ts x) where
  traced-more : Traced (ts ++ more) x
  traced-more = record {
    child = within_more ts more _ h.child;
    old_root = within_more ts more _ h.old_root;
    under = within_more ts more _ h.under;
    linked = λ e. h.linked (sym (ap (λ (y : Term). y.forest_parent) (term-more ts more x.child h.child)) ∙ e);
    put = λ e. h.put (sym (ap (λ (y : Term). y.class_parent) (term-more ts more x.under h.under)) ∙ e);
  }

  cut-more : cut_in (ts ++ more) x ≡ cut_in ts x ++ more
  cut-more =
      let us = put_edge ts x.child (no_edge x.child) in
      let g = cut-forest ts f x.child h.child in
      let e = edge-long ts x.child (no_edge x.child) in
      let wo = ap (λ (n : ℕ). within n x.old_root) e ∙ h.old_root in
      ap (λ (y : List Term). put_class (reroot_in y x.old_root) x.under x.under) (edge_more ts more x.child _ h.child)
      ∙ ap (λ (y : List Term). put_class y x.under x.under) (reroot_more us more g x.old_root wo)
      ∙ class-more (reroot_in us x.old_root) more x.under x.under (ap (λ (n : ℕ). within n x.under) ((rerooted us g x.old_root wo).long ∙ e) ∙ h.under)

-- 'Terms appended since then stay'
pub undo-more : (ts more us : List Term) (x : Trace) → Forest ts → undo_in ts x ≡ some us → undo_in (ts ++ more) x ≡ some (us ++ more)
undo-more ts more us x f h =
    let u = undo_cuts ts us x h in
    undo-is (ts ++ more) (us ++ more) x (record { traced = traced-more ts more f x u.traced; is = cut-more ts more f x u.traced ∙ ap (λ (y : List Term). y ++ more) u.is })
