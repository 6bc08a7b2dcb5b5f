-- Each way through `explain_unchecked`: a walk that starts from no pair seen, over the lent store.
use Rattle.std.specs.Prelude.{Result, Ok, Err}
use mathlib.Core.Path.{◌≡◌, refl, sym, ap, ◌∙◌}
use mathlib.Core.Bool.{true, false, ◌&&◌}
use mathlib.Core.List.{List, []}
use Prim.Native.Nat.{ℕ, ◌+◌, ◌*◌, ◌/◌, ◌%◌, ◌^◌, ◌≤◌, ◌<◌}
use native.Mathlib.Omega.{arith}
use lib.ListN.{length, replicate, length-replicate}
use lib.Dec.{ltb}
use Rattle.records.specs.Lists.{any, all, table}
use Rattle.records.specs.Store.{Store, ok, and_then, is_string}
use Rattle.records.specs.declared.State.{State}
use Rattle.records.specs.declared.refusal.Refusal.{Refusal}
use Rattle.records.specs.Calls.{added}
use Rattle.records.specs.Working.Doing.{Working}
use Rattle.records.specs.View.{Lent, lent, store_of, pairs_view, reasons_at}
use Rattle.records.specs.Make.{with_reasons}
use Rattle.records.specs.Working.Audited.{Ready}
use Rattle.records.proofs.Lists.{both_left, both_right, table-length, all-zero}
use Rattle.records.proofs.Beside.{audited-within}
use Rattle.records.proofs.Works.{one_store}
use Rattle.records.proofs.IndexLaws.{same_none}
use Rattle.records.proofs.IndexStores.{keeps-terms, records_beside, indexed_records}
use Rattle.records.proofs.Passed.{ready-beside}
use Rattle.records.proofs.Doing.{working_stopped}
use Rattle.engine.specs.Explain.{was_seen, walked, explain, explain_arguments, emptied, gives_reason, is_reasoned}
use Rattle.engine.specs.Working.Seen.{place, bit, seen_at, Tables}
use Rattle.engine.specs.Working.Walks.{Standing, Together, Walkable, Shows, Walks, explained, Explained, Explainable}
use Rattle.engine.proofs.Refines.Bits.{triangle-within}
use Rattle.engine.proofs.Sound.{class-together, explain_gave}

-- FROM NO PAIR SEEN

no_bit : (j : ℕ) → bit 0 j ≡ false
unfolding bit
no_bit j = rw (native.Mathlib.Nat.zero-div (2 ^ j)) refl

-- a table of zeros has no pair
pub none_noted : (w k : ℕ) → seen_at (replicate w 0) k ≡ false
unfolding seen_at
none_noted w k = ap (λ (x : ℕ). bit x (k % 32)) (all-zero w (k / 32)) ∙ no_bit (k % 32)

none-tabled : (n w : ℕ) → Tables n (replicate w 0) []
unfolding was_seen any
none-tabled n w = record { says = λ a b ha hb. none_noted w (place a b) }

pub explained-by : (terms cells tab' reasons reasons' : List ℕ) (n k a b c w : ℕ) (r : Result ℕ Refusal)
    → Walks (walked (a, b)) (λ s. Together s (a, b)) terms cells (replicate w 0) tab' reasons reasons' n k c r → Explained terms cells reasons reasons' n k a b c r
unfolding explain
explained-by terms cells tab' reasons reasons' n k a b c w r g = record { kept = g.kept; comes = λ e q. go r e (g.shows e q [] (none-tabled n w)) }
  where
    go : (r : Result ℕ Refusal) (e : Standing terms cells reasons n k) → Shows e.store n tab' reasons' r (walked (a, b) [] (with_reasons e.store (pairs_view reasons c)))
        → explain a b (with_reasons e.store (pairs_view reasons c)) ≡ explained e.store reasons' r
    go (Ok d) e v = ap (and_then (λ u. λ s. ok s tt)) v.is
    go (Err u) e v = ap (and_then (λ u. λ s. ok s tt)) v

pub explainable_walk : (terms cells reasons : List ℕ) (n k a b m w : ℕ) {c : ℕ} → n ≤ m → m ≤ 512 → 32 * (m + 1) + m * (m + 1) / 2 + m < 32 * w → Explainable terms cells reasons n k a b c
    → Walkable terms cells (replicate w 0) reasons n k c (λ s. Together s (a, b))
explainable_walk terms cells reasons n k a b m w i j h e =
    record { standing = e.standing; fit = e.together; wide = record { few = omega arith; long = rw (length-replicate {A = ℕ} w 0) (triangle-within n m (32 * w) i h) }; roomy = e.roomy }

-- THE LENT STORE

module _ (m : Lent) (c : State) where
  abbrev pub standing_of_lem : Ready m c → Standing m.terms m.cells m.reasons c.terms c.cells
  standing_of_lem d = record { store = store_of m c; audited = d.audited; words = d.sized.term_room; terms_are = refl; cells_are = refl; room_is = refl }

  abbrev pub explainable_of : (a b : ℕ) → Ready m c → explain_arguments a b (store_of m c) ≡ true → Explainable m.terms m.cells m.reasons c.terms c.cells a b c.reasons
  explainable_of a b d h =
      let i = both_left (is_string (store_of m c) a && is_string (store_of m c) b) _ h in
      record {
        standing = standing_of_lem d;
        together = class-together (store_of m c) d.audited a b (both_left _ _ i) (both_right (is_string (store_of m c) a) _ i) (both_right (is_string (store_of m c) a && is_string (store_of m c) b) _ h);
        roomy = let l = d.sized.reason_limited in let r = d.sized.reason_room in omega arith;
      }

  module _ (a b : ℕ) (d : Ready m c) (h : explain_arguments a b (store_of m c) ≡ true) (reasons' : List ℕ) (l : length reasons' ≡ length m.reasons) where
    store_after : (n : ℕ) → store_of (lent m.terms m.cells m.chars reasons' m.keys) (reasons_at c n) ≡ with_reasons (store_of m c) (pairs_view reasons' n)
    store_after n = rw l

    still : (r : Result ℕ Refusal) → Explained m.terms m.cells m.reasons reasons' c.terms c.cells a b c.reasons r → store_of (lent m.terms m.cells m.chars reasons' m.keys) c ≡ store_of m c
    still r x = store_after c.reasons ∙ ap (with_reasons (store_of m c)) x.kept

    pub explain_came : (n : ℕ) → Explained m.terms m.cells m.reasons reasons' c.terms c.cells a b c.reasons (Ok n) → (e : State) → e ≡ reasons_at c n
        → Working (explain a b) m (lent m.terms m.cells m.chars reasons' m.keys) c (added (Ok e) (lent m.terms m.cells m.chars reasons' m.keys))
    explain_came n x e q =
        let says = x.comes (standing_of_lem d) (explainable_of a b d h).together ∙ ap (λ (s : Store). ok s tt) (sym (store_after n)) in
        rw q (record {
          says = says;
          kept = keeps-terms (still (Ok n) x) refl;
          ready = λ f u i.
              let g = explain_gave (store_of m c) d.audited a b h _ u (says ∙ i) in
              ready-beside d (still (Ok n) x) refl g.audited (records_beside (one_store i) (store_after n));
        })

    pub explain_refused : (e : Refusal) → Explained m.terms m.cells m.reasons reasons' c.terms c.cells a b c.reasons (Err e)
        → Working (explain a b) m (lent m.terms m.cells m.chars reasons' m.keys) c (added (Err e) (lent m.terms m.cells m.chars reasons' m.keys))
    explain_refused e x = working_stopped (x.comes (standing_of_lem d) (explainable_of a b d h).together) (keeps-terms (still (Err e) x) refl)

-- A LIST OF ITS OWN

module _ (m : Lent) (c : State) (a b : ℕ) where
  abbrev pub ownly : List ℕ → Lent
  ownly l = lent m.terms m.cells m.chars l m.keys

  abbrev pub own : Lent
  own = ownly (replicate 2 0)

  own_is : store_of own (reasons_at c 0) ≡ emptied (store_of m c)
  unfolding table
  own_is = refl

  pub own-ready : (e : State) → e ≡ reasons_at c 0 → Ready m c → Ready own e
  unfolding table all
  own-ready e q d = rw q (record {
    sized = record {
      term_limited = d.sized.term_limited;
      term_room = d.sized.term_room;
      cell_limited = d.sized.cell_limited;
      cell_room = d.sized.cell_room;
      char_limited = d.sized.char_limited;
      char_room = d.sized.char_room;
      reason_limited = omega arith;
      reason_room = omega arith;
      key_limited = d.sized.key_limited;
      key_room = d.sized.key_room;
    };
    audited = audited-within (store_of m c) [] (store_of m c).keys c.names (emptied (store_of m c)).room d.audited refl d.audited.recorded.keys
        (record { terms = d.audited.roomy.terms; cells = d.audited.roomy.cells; chars = d.audited.roomy.chars; reasons = omega arith; keys = d.audited.roomy.keys });
    indexed = indexed_records (record { terms = refl; cells = refl; chars = refl }) (same_none m.terms _) d.indexed;
  })

  module _ (e : State) (q : e ≡ reasons_at c 0) (l : List ℕ) (r : Result State Refusal) (w : Working (explain a b) own (ownly l) e (added r (ownly l))) where
    own-says : is_reasoned (store_of m c) a b ≡ gives_reason (added r (ownly l))
    unfolding is_reasoned
    own-says = ap (λ (s : Store). gives_reason (explain a b s)) (sym own_is ∙ ap (store_of own) (sym q)) ∙ ap gives_reason w.says

    pub own-counts : (f : State) → r ≡ Ok f → ltb 0 f.reasons ≡ is_reasoned (store_of m c) a b
    own-counts f i =
        let z : gives_reason (added r (ownly l)) ≡ ltb 0 (length (pairs_view l f.reasons)) = ap (λ (x : Result State Refusal). gives_reason (added x (ownly l))) i in
        ap (ltb 0) (sym (table-length _ f.reasons)) ∙ sym z ∙ sym own-says

    pub own-refused : (k : Refusal) → r ≡ Err k → true ≡ is_reasoned (store_of m c) a b
    own-refused k i = let z : gives_reason (added r (ownly l)) ≡ true = ap (λ (x : Result State Refusal). gives_reason (added x (ownly l))) i in sym z ∙ sym own-says
