-- Each way through `expand_edge`: an edge by its label, and the pairs of a congruence edge in turn.
use Rattle.std.specs.Prelude.{Result, Ok, Err}
use mathlib.Core.Path.{◌≡◌, refl, sym, ap, ◌∙◌}
use mathlib.Core.Bool.{true, false}
use mathlib.Core.List.{List, [], ◌∷◌}
use mathlib.Core.Logic.{◌⊎◌, inl, inr, ⊎_elim}
use Prim.Native.Nat.{ℕ, suc, ◌+◌, ◌*◌, ◌-◌, ◌/◌, ◌%◌, ◌≤◌, ◌<◌, min}
use native.Mathlib.Omega.{arith}
use lib.ListN.{length}
use lib.Dec.{eqb, ltb}
use borrow.Author.Tests.{ltb-true, eqb-true, eqb-false}
use Rattle.records.specs.declared.refusal.Refusal.{Refusal}
use Rattle.records.specs.declared.refusal.Refusal.TheVariants.{Classes}
use Rattle.records.specs.declared.label.Label.{Label}
use Rattle.records.specs.declared.label.Label.TheVariants.{Asserted, Interface}
use Rattle.records.specs.Working.Label.{label_number}
use Rattle.records.specs.Lists.{firsts, one_more, Every, and}
use Rattle.records.specs.Store.{Term, Cell, Store, Out, ok, stop, Work, and_then, term, cell, count, is_term, is_edge, within, kind, parts, chain, chain_in, path_in, term_in, cell_in}
use Rattle.records.specs.View.{term_at, cell_at, pair_at, terms_view, cells_view, pairs_view, reason_room, reason_limit}
use Rattle.records.specs.Make.{with_reasons, is_listed, add_reason}
use Rattle.records.specs.Working.Audited.{Audited, Label as EdgeLabel, asserted, interface, congruence, definitional, Next, last, later}
use Rattle.records.proofs.Lists.{clash, decide, within_low, within-high, within-is, within-zero, table-length}
use Rattle.records.proofs.Views.{term_is, cell-is, table_is}
use Rattle.records.proofs.Chains.{chain-none, chain-is}
use Rattle.engine.specs.Explain.{Seen, each, edge, highest, walked}
use Rattle.engine.specs.Working.Seen.{triangle, place, bit, seen_at, Tables}
use Rattle.engine.specs.Working.Listing.{Besides}
use Rattle.engine.specs.Working.Walks.{Standing, Together, Edge, Wide, Walkable, Came, Shows, Walks, Gives}
use Rattle.engine.proofs.Fits.{Fit, fit-height, pairs-fit}
use Rattle.engine.proofs.Refines.Bits.{place-small}

-- THE LENT WORDS

module _ {terms cells reasons : List ℕ} {n k : ℕ} (e : Standing terms cells reasons n k) where
  pub standing-count : count e.store ≡ n
  standing-count = rw e.terms_are (table-length (λ i. term_at terms (suc i)) n)

  pub standing-cells : length e.store.cells ≡ k
  standing-cells = rw e.cells_are (table-length (λ i. cell_at cells (suc i)) k)

  pub standing-within : (t : ℕ) → is_term e.store t ≡ true → within n t ≡ true
  standing-within t h = rw standing-count at h

  pub standing-term : (t : ℕ) → is_term e.store t ≡ true → term e.store t ≡ term_at terms t
  standing-term t h =
      let w = standing-within t h in
      ap (λ (l : List Term). term_in l t) e.terms_are ∙ term_is terms n t (within_low n t w) (within-high n t w)

  pub standing-cell : (c : ℕ) → within (length e.store.cells) c ≡ true → cell e.store c ≡ cell_at cells c
  standing-cell c h =
      let w : within k c ≡ true = rw standing-cells at h in
      ap (λ (l : List Cell). cell_in l c) e.cells_are ∙ cell-is cells k c (within_low k c w) (within-high k c w)

-- as many reasons fit a slice of the same length
abbrev pub standing_on : {terms cells reasons : List ℕ} {n k : ℕ} (reasons' : List ℕ) → length reasons' ≡ length reasons → Standing terms cells reasons n k
    → Standing terms cells reasons' n k
standing_on reasons' h e = record {
  store = e.store;
  audited = e.audited;
  words = e.words;
  terms_are = e.terms_are;
  cells_are = e.cells_are;
  room_is = e.room_is ∙ ap (λ (x : ℕ). min reason_limit (x / 2)) (sym h);
}

-- a view of fewer reasons
pub fewer : (l l' : List ℕ) (m n : ℕ) → m ≤ n → pairs_view l' n ≡ pairs_view l n → pairs_view l' m ≡ pairs_view l m
fewer l l' m n h e = Rattle.records.proofs.Lists.table_same _ _ m (λ i b. table_is _ _ n i e (omega arith))

-- AN EDGE BY ITS LABEL

-- the number of a label that was told from its word
pub label_is : {k : ℕ} {x y : Label} → label_number x ≡ k → x ≡ y → k ≡ label_number y
label_is e q = sym e ∙ ap label_number q

-- of a reason that is given, asserted or interface
pub reason_label : {k : ℕ} {x : Label} → label_number x ≡ k → (x ≡ Asserted) ⊎ (x ≡ Interface) → (1 ≤ k) × (k ≤ 2)
reason_label e (inl q) = let i = label_is e q in (omega arith, omega arith)
reason_label e (inr q) = let i = label_is e q in (omega arith, omega arith)

-- the label's words, as they were read
pub record Labelled (terms : List ℕ) (node kind value : ℕ) : Type 0 where
  pub kind_is : kind ≡ (term_at terms node).label_kind
  pub value_is : value ≡ (term_at terms node).label_value

module _ {terms cells reasons : List ℕ} {n k node kind value : ℕ} (e : Standing terms cells reasons n k) (q : Edge e.store node) (l : Labelled terms node kind value) where
  label_kind_lem : (term e.store node).label_kind ≡ kind
  label_kind_lem = ap (λ (t : Term). t.label_kind) (standing-term e node q.here) ∙ sym l.kind_is

  label_value_lem : (term e.store node).label_value ≡ value
  label_value_lem = ap (λ (t : Term). t.label_value) (standing-term e node q.here) ∙ sym l.value_is

-- the reason of an edge, asserted or interface
edge-adds : (s : Store) (node j v : ℕ) (seen : Seen) → (1 ≤ j) × (j ≤ 2) → (term s node).label_kind ≡ j → (term s node).label_value ≡ v
    → edge walked node seen s ≡ and_then (λ u. λ s₁. ok s₁ seen) (add_reason j v s)
unfolding edge
edge-adds s node j v seen two e f =
    decide (eqb j 1) (λ h. let i = eqb-true j 1 h in rw (e, f, i)) (λ h. let d = eqb-false j 1 h in let i : j ≡ 2 = omega (arith, two.0, two.1) in rw (e, f, i))

module _ (s : Store) (j v : ℕ) (rs : List (ℕ × ℕ)) where
  added-there : is_listed (j, v) rs ≡ true → add_reason j v (with_reasons s rs) ≡ ok (with_reasons s rs) tt
  unfolding add_reason
  added-there y = rw y

  added-fits : is_listed (j, v) rs ≡ false → ltb (length rs) s.room.reasons ≡ true → add_reason j v (with_reasons s rs) ≡ ok (with_reasons s (one_more rs (j, v))) tt
  unfolding add_reason
  added-fits y h = rw (y, h)

  added_full : is_listed (j, v) rs ≡ false → ltb (length rs) s.room.reasons ≡ false → add_reason j v (with_reasons s rs) ≡ stop 7
  unfolding add_reason
  added_full y h = rw (y, h)

-- the reason is given, and the table at exit has the pairs of that at entry
pub edge-gives : (terms cells tab tab' reasons reasons' : List ℕ) {places places' : List ℕ} (n k node kind value count : ℕ) {slot : ℕ} (r : Result ℕ Refusal) → (1 ≤ kind) × (kind ≤ 2)
    → Labelled terms node kind value → Gives reasons reasons' places places' count kind value slot r → ((seen : Seen) → Tables n tab seen → Tables n tab' seen)
    → Walks (edge walked node) (λ s. Edge s node) terms cells tab tab' reasons reasons' n k count r
edge-gives terms cells tab tab' reasons reasons' n k node kind value count r two l g over =
    decide (is_listed (kind, value) (pairs_view reasons count))
    (λ y. rw (g.listed y) (record {
      kept = g.kept;
      more = omega arith;
      fits = λ h. h;
      shows = λ e q seen m. record {
        seen = seen;
        tabled = over seen m;
        is = adds e q seen ∙ ap (and_then (λ u. λ s₁. ok s₁ seen)) (added-there e.store kind value (pairs_view reasons count) y) ∙ ap (λ (x : List (ℕ × ℕ)). ok (with_reasons e.store x) seen) (sym g.kept);
      };
    }))
    (λ y. decide (ltb count (reason_room reasons))
    (λ h. rw ((g.given y h).0) (record {
      kept = g.kept;
      more = omega arith;
      fits = λ x. let z = ltb-true count (reason_room reasons) h in omega arith;
      shows = λ e q seen m. record {
        seen = seen;
        tabled = over seen m;
        is = adds e q seen ∙ ap (and_then (λ u. λ s₁. ok s₁ seen)) (added-fits e.store kind value (pairs_view reasons count) y (rw (table-length (pair_at reasons) count, e.room_is) h)) ∙ ap (λ (x : List (ℕ × ℕ)). ok (with_reasons e.store x) seen) (sym (g.given y h).1);
      };
    }))
    (λ h. rw (g.full y h) (record {
      kept = g.kept;
      more = tt;
      fits = tt;
      shows = λ e q seen m. adds e q seen ∙ ap (and_then (λ u. λ s₁. ok s₁ seen)) (added_full e.store kind value (pairs_view reasons count) y (rw (table-length (pair_at reasons) count, e.room_is) h));
    })))
  where
    adds : (e : Standing terms cells reasons n k) → Edge e.store node → (seen : Seen)
        → edge walked node seen (with_reasons e.store (pairs_view reasons count)) ≡ and_then (λ u. λ s₁. ok s₁ seen) (add_reason kind value (with_reasons e.store (pairs_view reasons count)))
    adds e q seen = edge-adds (with_reasons e.store (pairs_view reasons count)) node kind value seen two (label_kind_lem e q l) (label_value_lem e q l)

-- a table of which a word past those of the pairs is another has the same pairs
tables-over : (n slot : ℕ) (tab tab' : List ℕ) → triangle n + n < 32 * slot → Besides tab tab' slot → (seen : Seen) → Tables n tab seen → Tables n tab' seen
unfolding seen_at
tables-over n slot tab tab' h d seen m = record {
  says = λ a b ha hb.
      let p = place-small n a b ha hb in
      ap (λ (x : ℕ). bit x (place a b % 32)) (d (place a b / 32) (λ i. omega arith)) ∙ m.says a b ha hb;
}

-- the words of the terms are the last of the table
module _ (terms cells tab reasons : List ℕ) (n k node count : ℕ) (w : Walkable terms cells tab reasons n k count (λ s. Edge s node)) where
  pub slot_past : 32 * node + 32 + triangle n + n < 32 * length tab
  slot_past = let a = within-high n node (standing-within w.standing node w.fit.here) in let l = w.wide.long in omega arith

  pub edge_hints : (tab' reasons' : List ℕ) (kind value : ℕ) (r : Result ℕ Refusal) → (1 ≤ kind) × (kind ≤ 2) → Labelled terms node kind value
      → Gives reasons reasons' tab tab' count kind value (length tab - 1 - node) r → Walks (edge walked node) (λ s. Edge s node) terms cells tab tab' reasons reasons' n k count r
  edge_hints tab' reasons' kind value r two l g =
      edge-gives terms cells tab tab' reasons reasons' n k node kind value count r two l g (tables-over n _ tab tab' (let p = slot_past in omega arith) g.elsewhere)

pub edge-nothing : (terms cells tab reasons : List ℕ) (n k node kind value count : ℕ) → kind ≡ 4 → Labelled terms node kind value
    → Walks (edge walked node) (λ s. Edge s node) terms cells tab tab reasons reasons n k count (Ok count)
unfolding edge
edge-nothing terms cells tab reasons n k node kind value count i l = record {
  kept = refl;
  more = omega arith;
  fits = λ h. h;
  shows = λ e q seen m. record { seen = seen; tabled = m; is = rw (label_kind_lem e q l, i) };
}

-- no edge has another label
pub edge_other : (terms cells tab reasons : List ℕ) (n k node kind value count : ℕ) → (kind ≡ 0) ⊎ (4 < kind)
    → Labelled terms node kind value → Walkable terms cells tab reasons n k count (λ s. Edge s node)
    → Walks (edge walked node) (λ s. Edge s node) terms cells tab tab reasons reasons n k count (Err Classes)
edge_other terms cells tab reasons n k node kind value count other l w =
    absurd (go (w.standing.audited.classed.labels node w.fit.here w.fit.joins))
  where
    same : (term w.standing.store node).label_kind ≡ kind
    same = label_kind_lem w.standing w.fit l

    none : (m : ℕ) → 1 ≤ m → m ≤ 4 → kind ≡ m → ⊥
    none m low high e = ⊎_elim (λ i. absurd (omega arith)) (λ i. absurd (omega arith)) other

    go : EdgeLabel w.standing.store node → ⊥
    go (asserted a b) = none 1 (omega arith) (omega arith) (sym same ∙ a)
    go (interface a b) = none 2 (omega arith) (omega arith) (sym same ∙ a)
    go (congruence a) = none 3 (omega arith) (omega arith) (sym same ∙ a)
    go (definitional a b) = none 4 (omega arith) (omega arith) (sym same ∙ a)

-- THE PAIRS OF A CONGRUENCE

-- a list's first in turn, and what is left
each_first : {A : Type 0} (f : A → Seen → Work Seen) (x : A) (l : List A) (seen seen' : Seen) (s s' : Store) → f x seen s ≡ ok s' seen' → each f (x ∷ l) seen s ≡ each f l seen' s'
unfolding each
each_first f x l seen seen' s s' e = ap (and_then (each f l)) e

each-stopped : {A : Type 0} (f : A → Seen → Work Seen) (x : A) (l : List A) (seen : Seen) (s : Store) (c : ℕ) → f x seen s ≡ stop c → each f (x ∷ l) seen s ≡ stop c
unfolding each
each-stopped f x l seen s c e = ap (and_then (each f l)) e

each_none : {A : Type 0} (f : A → Seen → Work Seen) (seen : Seen) (s : Store) → each f [] seen s ≡ ok s seen
unfolding each
each_none f seen s = refl

-- what is left of work in turn comes to what the whole came to
pub record Left {A : Type 0} (f : A → Seen → Work Seen) (s : Store) (n : ℕ) (tab reasons : List ℕ) (count : ℕ) (l : List A) (o : Out Seen) : Type 0 where
  pub seen : Seen
  pub tabled : Tables n tab seen
  pub is : each f l seen (with_reasons s (pairs_view reasons count)) ≡ o

module _ {A : Type 0} (f : A → Seen → Work Seen) (s : Store) (n : ℕ) where
  -- one in turn that came to something, that was refused, and none left
  pub left-turn : {tab tab' reasons reasons' : List ℕ} {c d : ℕ} {x : A} {l : List A} {o : Out Seen} (v : Left f s n tab reasons c (x ∷ l) o)
      → Came s n tab' reasons' d (f x v.seen (with_reasons s (pairs_view reasons c))) → Left f s n tab' reasons' d l o
  left-turn {x = x} {l = l} v u = record { seen = u.seen; tabled = u.tabled; is = sym (each_first f x l v.seen u.seen _ _ u.is) ∙ v.is }

  pub left-stopped : {tab reasons : List ℕ} {c k : ℕ} {x : A} {l : List A} {o : Out Seen} (v : Left f s n tab reasons c (x ∷ l) o)
      → f x v.seen (with_reasons s (pairs_view reasons c)) ≡ stop k → o ≡ stop k
  left-stopped {x = x} {l = l} v i = sym v.is ∙ each-stopped f x l v.seen _ _ i

  pub left-none : {tab reasons : List ℕ} {c : ℕ} {o : Out Seen} → Left f s n tab reasons c [] o → Came s n tab reasons c o
  left-none v = record { seen = v.seen; tabled = v.tabled; is = sym v.is ∙ each_none f v.seen _ }

-- from a table, reasons and a count to others: what was counted stays
pub record Stays (tab tab' reasons reasons' : List ℕ) (count count' : ℕ) : Type 0 where
  pub tables : length tab' ≡ length tab
  pub long : length reasons' ≡ length reasons
  pub kept : pairs_view reasons' count ≡ pairs_view reasons count
  pub more : count ≤ count'
  pub fits : count ≤ reason_room reasons → count' ≤ reason_room reasons

pub stays-none : (tab reasons : List ℕ) (count : ℕ) → Stays tab tab reasons reasons count count
stays-none tab reasons count = record { tables = refl; long = refl; kept = refl; more = omega arith; fits = λ h. h }

-- what was counted at first stays as well
pub stays-kept : {tab tab₁ reasons reasons₁ : List ℕ} {count count₁ : ℕ} (reasons₂ : List ℕ) → Stays tab tab₁ reasons reasons₁ count count₁
    → pairs_view reasons₂ count₁ ≡ pairs_view reasons₁ count₁ → pairs_view reasons₂ count ≡ pairs_view reasons count
stays-kept {reasons₁ = r₁} {count = c} {count₁ = c₁} r₂ a v = fewer r₁ r₂ c c₁ a.more v ∙ a.kept

pub stays_then : {tab tab₁ tab₂ reasons reasons₁ reasons₂ : List ℕ} {count count₁ count₂ : ℕ} → Stays tab tab₁ reasons reasons₁ count count₁
    → length tab₂ ≡ length tab₁ → length reasons₂ ≡ length reasons₁ → pairs_view reasons₂ count₁ ≡ pairs_view reasons₁ count₁ → count₁ ≤ count₂
    → (count₁ ≤ reason_room reasons₁ → count₂ ≤ reason_room reasons₁) → Stays tab tab₂ reasons reasons₂ count count₂
stays_then a t l v m f = record {
  tables = t ∙ a.tables;
  long = l ∙ a.long;
  kept = stays-kept _ a v;
  more = let h = a.more in omega arith;
  fits = λ h. let e = a.long in let u = a.fits h in let w = f (omega arith) in omega arith;
}

-- a count that fits still fits
pub stays-room : {tab tab₁ reasons reasons₁ : List ℕ} {count count₁ : ℕ} → Stays tab tab₁ reasons reasons₁ count count₁ → count ≤ reason_room reasons → count₁ ≤ reason_room reasons₁
stays-room a h = let e = a.long in let u = a.fits h in omega arith

-- the chain from a cell on, or none
pub data At (s : Store) (at : ℕ) : Type 0 where
  ended : at ≡ 0 → At s at
  standing : within (length s.cells) at ≡ true → At s at

at_next : (s : Store) → Audited s → (at : ℕ) → within (length s.cells) at ≡ true → At s (cell s at).next
at_next s d at w = go (d.recorded.nexts at w)
  where
    go : Next s.cells at → At s (cell s at).next
    go (last e) = ended e
    go (later a b) = standing (within-is _ _ (let z = within_low _ at w in omega arith) b)

at_here : (s : Store) (at : ℕ) → At s at → (at ≡ 0 → ⊥) → within (length s.cells) at ≡ true
at_here s at (ended e) d = absurd (d e)
at_here s at (standing w) d = w

-- a chain that is not empty starts at a cell
at-chain : (s : Store) (at : ℕ) → (chain s at ≡ [] → ⊥) → At s at
at-chain s at d = decide (within (length s.cells) at) standing (λ f. absurd (d (chain-none s.cells at f)))

-- the loop over the pairs of the congruence edge from node
pub record Pairing (terms cells tab tab' reasons reasons' : List ℕ) (n k node first at count count' : ℕ) : Type 0 where
  pub stays : Stays tab tab' reasons reasons' count count'
  pub at_is : (e : Standing terms cells reasons n k) → Edge e.store node → At e.store at
  pub fits : (e : Standing terms cells reasons n k) → Edge e.store node → Every (Fit e.store (term e.store node).stamp) (chain e.store at)
  pub left : (e : Standing terms cells reasons n k) → Edge e.store node → (seen : Seen) → Tables n tab seen
      → Left walked e.store n tab' reasons' count' (chain e.store at) (each walked (chain e.store first) seen (with_reasons e.store (pairs_view reasons count)))

firsts-none : (l : List (ℕ × ℕ)) → firsts l ≡ [] → length l ≡ 0
unfolding firsts
firsts-none [] e = refl
firsts-none (p ∷ l) e = let z : ◌≡◌ {A = ℕ} 0 1 = cc in absurd (omega arith)

-- a congruence edge has pairs
congruence-pairs : (s : Store) → Audited s → (t : ℕ) → is_edge s t ≡ true → (term s t).label_kind ≡ 3 → chain s (term s t).label_value ≡ [] → ⊥
unfolding firsts
congruence-pairs s d t j c z =
    let g = d.congruences t j c in
    ⊎_elim (λ p. short t g.child p.one) (λ p. short (term s t).forest_parent g.parent p.one) g.pairs
  where
    short : (u : ℕ) → kind s u ≡ 3 → firsts (chain s (term s t).label_value) ≡ parts s u → ⊥
    short u k f =
        let two = d.recorded.two_parts u k in
        let none = firsts-none (chain s (term s u).first) (sym f ∙ ap firsts z) in omega arith

pub pairing_begin : (terms cells tab reasons : List ℕ) (n k node j value c : ℕ) → j ≡ 3 → Labelled terms node j value
    → Pairing terms cells tab tab reasons reasons n k node value value c c
pairing_begin terms cells tab reasons n k node j value c i l = record {
  stays = stays-none tab reasons c;
  at_is = λ e q. at-chain e.store value (λ z. congruence-pairs e.store e.audited node q.joins (label_kind_lem e q l ∙ i) (ap (chain e.store) (label_value_lem e q l) ∙ z));
  fits = λ e q. rw (label_value_lem e q l) at (pairs-fit e.store e.audited node (e.audited.congruences node q.joins (label_kind_lem e q l ∙ i)));
  left = λ e q seen m. record { seen = seen; tabled = m; is = refl };
}

-- a congruence edge does what its pairs do in turn
edge-shows : {terms cells reasons : List ℕ} {n k node kind value first : ℕ} (tab' reasons' : List ℕ) (r : Result ℕ Refusal) (c : ℕ) (e : Standing terms cells reasons n k) → Edge e.store node → Labelled terms node kind value
    → kind ≡ 3 → first ≡ value → (seen : Seen) → Shows e.store n tab' reasons' r (each walked (chain e.store first) seen (with_reasons e.store (pairs_view reasons c)))
    → Shows e.store n tab' reasons' r (edge walked node seen (with_reasons e.store (pairs_view reasons c)))
unfolding edge
edge-shows tab' reasons' r c e q l j u seen v = rw (label_kind_lem e q l, j, label_value_lem e q l, ← u) v

-- the pair of a cell, as it was read
pub record Pair (cells : List ℕ) (at x y next : ℕ) : Type 0 where
  pub one : x ≡ (cell_at cells at).value
  pub other : y ≡ (cell_at cells at).other
  pub next_is : next ≡ (cell_at cells at).next

module _ {terms cells reasons : List ℕ} {n k at x y z : ℕ} (e : Standing terms cells reasons n k) (w : within (length e.store.cells) at ≡ true) (p : Pair cells at x y z) where
  pair-chain : chain e.store at ≡ (x, y) ∷ chain e.store z
  pair-chain =
      let c = standing-cell e at w in
      let a : (cell e.store at).value ≡ x = ap (λ (b : Cell). b.value) c ∙ sym p.one in
      let b : (cell e.store at).other ≡ y = ap (λ (b : Cell). b.other) c ∙ sym p.other in
      let d : (cell e.store at).next ≡ z = ap (λ (b : Cell). b.next) c ∙ sym p.next_is in
      rw (a, b, d) at (chain-is e.store.cells at e.audited.recorded.nexts w)

  pair-next : At e.store z
  pair-next =
      let d : (cell e.store at).next ≡ z = ap (λ (b : Cell). b.next) (standing-cell e at w) ∙ sym p.next_is in
      rw d at (at_next e.store e.audited at w)

pub every_head : {A : Type 0} {P : A → Type 0} {a : A} {l : List A} → Every P (a ∷ l) → P a
every_head (and p k) = p

pub every_tail : {A : Type 0} {P : A → Type 0} {a : A} {l : List A} → Every P (a ∷ l) → Every P l
every_tail (and p k) = k

module _ (terms cells tab tab₁ reasons reasons₁ : List ℕ) (n k node first at x y z c c₁ : ℕ) (g : Pairing terms cells tab tab₁ reasons reasons₁ n k node first at c c₁) (d : at ≡ 0 → ⊥)
    (p : Pair cells at x y z) where
  -- the pair is below the edge
  pub pairing_fit : (e : Standing terms cells reasons n k) → Edge e.store node → Fit e.store (term e.store node).stamp (x, y)
  pairing_fit e q = every_head (rw (pair-chain e (at_here _ at (g.at_is e q) d) p) at (g.fits e q))

  module _ (tab₂ reasons₂ : List ℕ) (r : Result ℕ Refusal) (t : length tab₂ ≡ length tab₁) (m : length reasons₂ ≡ length reasons₁)
      (w : Walks (walked (x, y)) (λ s. Together s (x, y)) terms cells tab₁ tab₂ reasons₁ reasons₂ n k c₁ r) where
    -- what the pair came to, from where the pairs before it left off
    pairing_shows : (e : Standing terms cells reasons n k) → Edge e.store node → (seen : Seen) → Tables n tab₁ seen
        → Shows e.store n tab₂ reasons₂ r (walked (x, y) seen (with_reasons e.store (pairs_view reasons₁ c₁)))
    pairing_shows e q seen v = w.shows (standing_on reasons₁ g.stays.long e) (pairing_fit e q).together seen v

    -- the pairs left, with this one first
    pairing_left : (e : Standing terms cells reasons n k) (q : Edge e.store node) (seen : Seen) (v : Tables n tab seen)
        → Left walked e.store n tab₁ reasons₁ c₁ ((x, y) ∷ chain e.store z) (each walked (chain e.store first) seen (with_reasons e.store (pairs_view reasons c)))
    pairing_left e q seen v = rw (pair-chain e (at_here _ at (g.at_is e q) d) p) at (g.left e q seen v)

  module _ (tab₂ reasons₂ : List ℕ) (t : length tab₂ ≡ length tab₁) (m : length reasons₂ ≡ length reasons₁) where
    pub pairing_turn : {c₂ : ℕ} → Walks (walked (x, y)) (λ s. Together s (x, y)) terms cells tab₁ tab₂ reasons₁ reasons₂ n k c₁ (Ok c₂)
        → Pairing terms cells tab tab₂ reasons reasons₂ n k node first z c c₂
    pairing_turn {c₂} w = record {
      stays = stays_then g.stays t m w.kept w.more w.fits;
      at_is = λ e q. pair-next e (at_here _ at (g.at_is e q) d) p;
      fits = λ e q. every_tail (rw (pair-chain e (at_here _ at (g.at_is e q) d) p) at (g.fits e q));
      left = λ e q seen v. let f = pairing_left tab₂ reasons₂ (Ok c₂) t m w e q seen v in left-turn walked e.store n f (pairing_shows tab₂ reasons₂ (Ok c₂) t m w e q f.seen f.tabled);
    }

    -- a pair that is refused ends the edge
    pub pairing_stop : {u : Refusal} → Walks (walked (x, y)) (λ s. Together s (x, y)) terms cells tab₁ tab₂ reasons₁ reasons₂ n k c₁ (Err u)
        → (kind value : ℕ) → kind ≡ 3 → first ≡ value → Labelled terms node kind value
        → Walks (edge walked node) (λ s. Edge s node) terms cells tab tab₂ reasons reasons₂ n k c (Err u)
    pairing_stop {u} w kind value j i l = record {
      kept = stays-kept _ g.stays w.kept;
      more = tt;
      fits = tt;
      shows = λ e q seen v. let f = pairing_left tab₂ reasons₂ (Err u) t m w e q seen v in
          edge-shows tab₂ reasons₂ (Err u) c e q l j i seen (left-stopped walked e.store n f (pairing_shows tab₂ reasons₂ (Err u) t m w e q f.seen f.tabled));
    }

pub pairing_done : (terms cells tab tab₁ reasons reasons₁ : List ℕ) (n k node first at c c₁ : ℕ) → Pairing terms cells tab tab₁ reasons reasons₁ n k node first at c c₁ → at ≡ 0
    → (kind value : ℕ) → kind ≡ 3 → first ≡ value → Labelled terms node kind value
    → Walks (edge walked node) (λ s. Edge s node) terms cells tab tab₁ reasons reasons₁ n k c (Ok c₁)
pairing_done terms cells tab tab₁ reasons reasons₁ n k node first at c c₁ g z kind value j u l = record {
  kept = g.stays.kept;
  more = g.stays.more;
  fits = g.stays.fits;
  shows = λ e q seen v. edge-shows tab₁ reasons₁ (Ok c₁) c e q l j u seen (left-none walked e.store n (rw (ap (chain e.store) z ∙ chain-none e.store.cells 0 (within-zero _ 0 refl)) at (g.left e q seen v)));
}

-- WHAT THE CALLS ASK, AND WHAT FALLS

pub wide-on : {n : ℕ} {tab tab₁ : List ℕ} → length tab₁ ≡ length tab → Wide n tab → Wide n tab₁
wide-on i w = record { few = w.few; long = (let l = w.long in omega arith) }

module _ (terms cells tab tab₁ reasons reasons₁ : List ℕ) (n k node first at x y c c₁ : ℕ) (u : Walkable terms cells tab reasons n k c (λ s. Edge s node))
    (g : Pairing terms cells tab tab₁ reasons reasons₁ n k node first at c c₁) (d : at ≡ 0 → ⊥) where
  pub pairing_walkable : x ≡ (cell_at cells at).value → y ≡ (cell_at cells at).other → Walkable terms cells tab₁ reasons₁ n k c₁ (λ s. Together s (x, y))
  pairing_walkable i j = record {
    standing = standing_on reasons₁ g.stays.long u.standing;
    fit = (pairing_fit terms cells tab tab₁ reasons reasons₁ n k node first at x y _ c c₁ g d (record { one = i; other = j; next_is = refl }) u.standing u.fit).together;
    wide = wide-on g.stays.tables u.wide;
    roomy = stays-room g.stays u.roomy;
  }

  pub pairing_low : x ≡ (cell_at cells at).value → y ≡ (cell_at cells at).other → highest (terms_view terms n) (path_in (terms_view terms n) x y) ≤ (term_in (terms_view terms n) node).stamp
  pairing_low i j =
      rw u.standing.terms_are at (fit-height (pairing_fit terms cells tab tab₁ reasons reasons₁ n k node first at x y _ c c₁ g d (record { one = i; other = j; next_is = refl }) u.standing u.fit))

  pub pairing_less : (z : ℕ) → z ≡ (cell_at cells at).next → length (chain_in (cells_view cells k) z) < length (chain_in (cells_view cells k) at)
  pairing_less z i =
      let p = pair-chain u.standing (at_here _ at (g.at_is u.standing u.fit) d) (record { one = refl; other = refl; next_is = i }) in
      let q = ap length (rw u.standing.cells_are at p) in omega arith
