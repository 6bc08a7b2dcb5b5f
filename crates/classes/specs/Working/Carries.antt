-- What the contracts of working functions cite: the loop that re-roots from below, and the words of terms before and after.
use Rattle.std.specs.Prelude.{◌≡◌, Bool, true, false, List, ℕ, zero, suc, ◌≤◌, ◌<◌, length, get_or, eqb}
use Rattle.std.proofs.Math.Option.{Option, none, some}
use Rattle.records.specs.declared.State.{State}
use Rattle.records.specs.Lists.{Every}
use Rattle.records.specs.Store.{Term, kind, parts, term_in, within, class_up, forest_up, root_in, top_in}
use Rattle.records.specs.View.{term_at, terms_view, term_words, term_limit, chained}
use Rattle.records.specs.Working.Audited.{Closed}
use Rattle.records.specs.Working.Puts.{IndexLeft}
use Rattle.classes.specs.declared.Standing.{Standing}
use Rattle.classes.specs.Joins.{Edge, no_edge, edge_of, put_edge, turned, Trace}
use Rattle.classes.specs.Marks.{Trail, trail_of, trace_place, join_limit, mark_limit}
use Rattle.classes.specs.Calls.{is_counted}

-- forest parents are terms and lead to a root, and roots are unlabelled
pub record Forest (ts : List Term) : Type 0 where
  pub closed : Closed (forest_up ts) (length ts)
  pub ended : (t : ℕ) → within (length ts) t ≡ true → forest_up ts (top_in ts t) ≡ top_in ts t
  pub unlabelled : (t : ℕ) → within (length ts) t ≡ true → forest_up ts t ≡ t → edge_of (term_in ts t) ≡ no_edge t

-- x gets the edge e; its own edge, turned round, goes to its parent, and so on up to the root
unfoldable pub carry_by : ℕ → List Term → ℕ → Edge → List Term
carry_by zero ts x e = ts
carry_by (suc n) ts x e = elim (eqb (forest_up ts x) x) [ true ↦ put_edge ts x e | false ↦ carry_by n (put_edge ts x e) (forest_up ts x) (turned x (term_in ts x)) ]

-- the n terms are now these; every other record, record 0 too, stays, and so do heads and ninth words
pub record TermsBecome (l l' : List ℕ) (n : ℕ) (ts : List Term) : Type 0 where
  pub long : length l' ≡ length l
  pub away : (t : ℕ) → within n t ≡ false → term_at l' t ≡ term_at l t
  pub is : terms_view l' n ≡ ts
  pub index : IndexLeft l l'

-- n terms whose forest parents are terms, x and the parent that it gets among them
pub record Carriable (l : List ℕ) (n x parent : ℕ) : Type 0 where
  pub few : n ≤ term_limit
  pub room : term_words n ≤ length l
  pub here : within n x ≡ true
  pub over : within n parent ≡ true
  pub closed : Closed (forest_up (terms_view l n)) n

-- n terms whose class parents are terms, and whose forest is one
pub record Tabled (l : List ℕ) (n : ℕ) : Type 0 where
  pub few : n ≤ term_limit
  pub room : term_words n ≤ length l
  pub classes : Closed (class_up (terms_view l n)) n
  pub forest : Forest (terms_view l n)

-- two of the terms, and the roots of their classes
pub record Linkable (l : List ℕ) (n a b under over : ℕ) : Type 0 where
  pub tabled : Tabled l n
  pub one : within n a ≡ true
  pub other : within n b ≡ true
  pub under_is : under ≡ root_in (terms_view l n) a
  pub over_is : over ≡ root_in (terms_view l n) b

pub record Cuttable (l : List ℕ) (n : ℕ) (x : Trace) : Type 0 where
  pub tabled : Tabled l n
  pub child : within n x.child ≡ true
  pub old_root : within n x.old_root ≡ true
  pub under : within n x.under ≡ true

-- whether there is a table, and that the terms are it; where there is none, they are a table still. Every other record stays
pub data Undoes (l l' : List ℕ) (n : ℕ) : Option (List Term) → Bool → Type 0 where
  undone : {ts : List Term} → TermsBecome l l' n ts → Tabled l' n → Undoes l l' n (some ts) true
  no_table : {ts : List Term} → TermsBecome l l' n ts → Tabled l' n → Undoes l l' n none false

-- terms that the audit of a mark may start from: their parts are terms
pub record Markable (l e : List ℕ) (c : State) : Type 0 where
  pub tabled : Tabled l c.terms
  pub parted : (t : ℕ) → kind (chained l e c) t ≡ 3 → Every (λ x. within c.terms x ≡ true) (parts (chained l e c) t)

-- the words of n terms, record 0 too, in k, which holds any number of them; its other words stay as they are in k₀
pub record Copied (l k₀ k : List ℕ) (n : ℕ) : Type 0 where
  pub words : (i : ℕ) → i < term_words n → get_or k i 0 ≡ get_or l i 0
  pub rest : (i : ℕ) → term_words n ≤ i → get_or k i 0 ≡ get_or k₀ i 0
  pub long : length k ≡ term_words term_limit

-- counts within their limits, of words that are all there
pub record TrailSized (l : List ℕ) (d : Standing) : Type 0 where
  pub few_marks : d.marks ≤ mark_limit
  pub few_joins : d.joins ≤ join_limit
  pub room : trace_place join_limit 0 ≤ length l

-- the words lent for marks now read as this trail, and words that are not counted stay
pub record Trailed (l l' : List ℕ) (x : Trail) (e : Standing) : Type 0 where
  pub is : trail_of l' e ≡ x
  pub rest : (i : ℕ) → is_counted e i ≡ false → get_or l' i 0 ≡ get_or l i 0
  pub long : length l' ≡ length l
