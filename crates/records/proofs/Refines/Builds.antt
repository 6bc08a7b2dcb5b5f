-- Making concatenations, lengths and equations.
use mathlib.Core.Path.{◌≡◌, refl, sym, ap, ◌∙◌}
use mathlib.Core.Bool.{Bool, true, false, not, ◌&&◌}
use mathlib.Core.List.{List, [], ◌∷◌, ◌++◌}
use mathlib.Core.Logic.{◌⊎◌, inl, inr}
use Prim.Native.Nat.{ℕ, suc, ◌+◌, ◌<◌, ◌≤◌}
use native.Mathlib.Numerals.{add-one}
use native.Mathlib.Omega.{arith}
use lib.ListN.{length, get_or, drop, drop_of_length-le}
use lib.Seq.{drop-cons}
use lib.Dec.{eqb, ltb, leb}
use borrow.Author.Tests.{not-true, not-false, eqb-true, eq-eqb, ne_eqb}
use Rattle.records.specs.Lists.{same_word, firsts, first_below}
use Rattle.records.specs.declared.State.{State}
use Rattle.std.specs.Prelude.{Ok, Err}
use Rattle.records.specs.declared.refusal.Refusal.TheVariants.{Room}
use Rattle.records.specs.declared.kind.Kind.{Kind}
use Rattle.records.specs.declared.kind.Kind.TheVariants as kinds
use Rattle.records.specs.Kind.{kind_number}
use Rattle.records.specs.Store.{Term as Record, Cell, Store, Out, ok, stop, Work, term, kind, count, within, chain_in}
use Rattle.records.specs.View.{Lent, lent, store_of, term_words, cell_words, term_limit, cell_limit, term_room, cell_room, term_at, cell_at, cells_view, chars_view, one_term, more_cells}
use Rattle.records.specs.Index.{bucket_of, bucket}
use Rattle.records.specs.Make.{number_of, lookup, lowest, add_chain, chain_from, add_term, concat_of, make_concat, length_of, equation_of, make_length, make_equation, concat_arguments, length_arguments, equation_arguments}
use Rattle.records.specs.Working.Indexing.{Searchable}
use Rattle.records.specs.Working.Leaves.{append_parts, has_parts, sides_of, has_sides, make_sides}
use Rattle.records.specs.Working.Puts.{TermPut, ChainPut}
use Rattle.records.specs.Working.Audited.{Ready, Sized, Recorded, Ascends}
use Rattle.records.specs.Calls.{made}
use Rattle.records.specs.Working.Doing.{Working, Building}
use Rattle.records.proofs.Lists.{left_false, both_left, both_right, decide, within_low, within-high, table-length, first-same, word_is}
use Rattle.records.proofs.Works.{one_store}
use Rattle.records.proofs.Append.{grow}
use Rattle.records.proofs.IndexSays.{bucket-small}
use Rattle.records.proofs.IndexStores.{bucket-parts, bucket-length, bucket-equation}
use Rattle.records.proofs.Doing.{working_same, works, building_is, building_stopped, building_found, ready-index, indexed-made, made-parts, made-sides, made-good, concat-fit, length-fit, equation-fit}
use Rattle.records.proofs.Views.{term_is, cell-is}
use Rattle.records.proofs.Chains.{chain-none, chain-is}
use Rattle.records.proofs.Refines.Making.{lowest-old, lowest-new}
use Rattle.records.proofs.Refines.Rooms.{term_limit_lem, term_room_lem, cells-limit, cells-room}

-- ONE TERM MORE

-- what a test of terms that passed says, of counts with as many terms too
module _ (t : List ℕ) (n : ℕ) (g : Bool) (term-here : g ≡ ltb n (term_room t)) (p : not g ≡ false) where
  pub one-limit : n < term_limit
  one-limit = term_limit_lem t n (sym term-here ∙ not-false g p)

  pub one-words : term_words (n + 1) ≤ length t
  one-words = term_room_lem t n (sym term-here ∙ not-false g p)

  pub one_later : (c d : State) (k : ℕ) → d ≡ more_cells c k → c.terms ≡ n → d.terms < term_limit
  one_later c d k e f = let h = one-limit in let q : d.terms ≡ c.terms = ap (λ (x : State). x.terms) e in omega arith

-- the store with a term put is the one grown by it
term-grown : (t e h r ks : List ℕ) (c : State) (k a b : ℕ) (d : State) (t' : List ℕ) {x : ℕ} → TermPut t t' c.terms k a b x → length t' ≡ length t → d ≡ one_term c
    → store_of (lent t' e h r ks) d ≡ grow (store_of (lent t e h r ks) c) (cells_view e c.cells) (chars_view h c.chars) k a b
term-grown t e h r ks c k a b d t' p n q = rw (q, add-one c.terms, p.grown, p.zero, n, table-length (λ i. term_at t (suc i)) c.terms)

module _ (t e h r ks : List ℕ) (c : State) (k a b : ℕ) (fits : Bool) (room : fits ≡ ltb c.terms (term_room t)) where
  pub term-added : (t' : List ℕ) {x : ℕ} → TermPut t t' c.terms k a b x → length t' ≡ length t → fits ≡ true
      → add_term k a b (store_of (lent t e h r ks) c) ≡ ok (store_of (lent t' e h r ks) (one_term c)) (c.terms + 1)
  unfolding add_term
  term-added t' p n f =
      rw (table-length (λ i. term_at t (suc i)) c.terms, ← room, f, n, add-one c.terms, p.grown, p.zero)

  pub term-refused : fits ≡ false → add_term k a b (store_of (lent t e h r ks) c) ≡ stop 8
  unfolding add_term
  term-refused f = rw (table-length (λ i. term_at t (suc i)) c.terms, ← room, f)

-- LENGTHS AND EQUATIONS

module _ (m : Lent) (c : State) where
  sides-found : (k a b : ℕ) → first_below (λ i. has_sides m.terms k a b (suc i)) c.terms ≡ lookup (sides_of k a b) (store_of m c)
  unfolding lookup has_sides sides_of
  sides-found k a b =
      rw (table-length (λ i. term_at m.terms (suc i)) c.terms)
      (first-same (λ i. has_sides m.terms k a b (suc i)) (λ i. sides_of k a b (store_of m c) (suc i)) c.terms (λ i h.
      ap (λ (y : Record). eqb y.kind k && eqb y.first a && eqb y.second b) (sym (term_is m.terms c.terms (suc i) (omega arith) h))))

-- the two kinds that have two words, by their numbers
pub sided : {k : Kind} {b : ℕ} → ((k ≡ kinds.Length) × (b ≡ 0)) ⊎ (k ≡ kinds.Equation) → ((kind_number k ≡ 4) × (b ≡ 0)) ⊎ (kind_number k ≡ 5)
sided (inl o) = inl (ap kind_number o.0, o.1)
sided (inr o) = inr (ap kind_number o)

-- a length or an equation that has these words lies in their bucket: a length's second word is 0
pub sides_searchable : (m : Lent) (c : State) (k a b x : ℕ) → Ready m c → ((k ≡ 4) × (b ≡ 0)) ⊎ (k ≡ 5) → x ≡ bucket_of k (a ∷ b ∷ []) → Searchable m.terms c.terms x (has_sides m.terms k a b)
unfolding has_sides
sides_searchable m c k a b x ready two e = record { f = bucket (store_of m c); indexed = ready-index ready; small = rw e (bucket-small k (a ∷ b ∷ [])); lies = λ t w q. lies t w q two ∙ sym e }
  where
    lies : (t : ℕ) → within c.terms t ≡ true → has_sides m.terms k a b t ≡ true → ((k ≡ 4) × (b ≡ 0)) ⊎ (k ≡ 5) → bucket (store_of m c) t ≡ bucket_of k (a ∷ b ∷ [])
    lies t w q z =
        let is = term_is m.terms c.terms t (within_low c.terms t w) (within-high c.terms t w) in
        let y = both_left _ _ q in
        let i : kind (store_of m c) t ≡ k = ap (λ (z : Record). z.kind) is ∙ eqb-true _ _ (both_left _ _ y) in
        let p : (term (store_of m c) t).first ≡ a = ap (λ (z : Record). z.first) is ∙ eqb-true _ _ (both_right (eqb (term_at m.terms t).kind k) _ y) in
        let g : (term (store_of m c) t).second ≡ b = ap (λ (z : Record). z.second) is ∙ eqb-true _ _ (both_right (eqb (term_at m.terms t).kind k && eqb (term_at m.terms t).first a) _ q) in
        go i p g z
      where
        go : kind (store_of m c) t ≡ k → (term (store_of m c) t).first ≡ a → (term (store_of m c) t).second ≡ b → ((k ≡ 4) × (b ≡ 0)) ⊎ (k ≡ 5) → bucket (store_of m c) t ≡ bucket_of k (a ∷ b ∷ [])
        go i p g (inl o) = rw (o.0, o.1) (bucket-length (store_of m c) t a (i ∙ o.0) p)
        go i p g (inr o) = rw o (bucket-equation (store_of m c) t a b (i ∙ o) p g)

module _ (t e h r ks : List ℕ) (c : State) (ready : Ready (lent t e h r ks) c) (k a b : ℕ) (u : ℕ) (look : u ≡ number_of (first_below (λ i. has_sides t k a b (suc i)) c.terms)) where
  looked : u ≡ number_of (lookup (sides_of k a b) (store_of (lent t e h r ks) c))
  looked = look ∙ ap number_of (sides-found (lent t e h r ks) c k a b)

  pub sides-old : (u ≡ 0 → ⊥) → Building (make_sides k a b) (lent t e h r ks) (lent t e h r ks) c (made (Ok (u, c)) (lent t e h r ks))
  unfolding make_sides
  sides-old d = building_found ready (lowest-old (sides_of k a b) (add_term k a b) (store_of (lent t e h r ks) c) u looked d)

  module _ (z : u ≡ 0) (fits : Bool) (room : fits ≡ ltb c.terms (term_room t)) where
    pub sides-full : fits ≡ false → Building (make_sides k a b) (lent t e h r ks) (lent t e h r ks) c (made (Err Room) (lent t e h r ks))
    unfolding make_sides
    sides-full f =
        building_stopped (lowest-new (sides_of k a b) (add_term k a b) (store_of (lent t e h r ks) c) u looked z ∙ term-refused t e h r ks c k a b fits room f)

    pub sides-made : (t' : List ℕ) (d : State) (x : ℕ) → fits ≡ true → ((k ≡ 4) × (b ≡ 0)) ⊎ (k ≡ 5) → x ≡ bucket_of k (a ∷ b ∷ []) → TermPut t t' c.terms k a b x → length t' ≡ length t → d ≡ one_term c
        → Building (make_sides k a b) (lent t e h r ks) (lent t' e h r ks) c (made (Ok ((c.terms + 1), d)) (lent t' e h r ks))
    unfolding make_sides
    sides-made t' d x f two i p n q =
        record {
          says =
              lowest-new (sides_of k a b) (add_term k a b) (store_of (lent t e h r ks) c) u looked z
              ∙ rw q (term-added t e h r ks c k a b fits room t' p n f);
          kept = record { store = rw (p.kept, n, p.zero); index = p.linked.kept };
          indexed = λ g y o same. indexed-made (lent t e h r ks) c t' x (cells_view e c.cells) (chars_view h c.chars) k a b (store_of (lent t' e h r ks) d) (store_of (lent t' e h r ks) g) ready p.linked (one_store o) (term-grown t e h r ks c k a b d t' p n q) same (λ s j. made-sides k a b (store_of (lent t e h r ks) c) s two j ∙ sym i);
        }

-- another test that agrees on every term finds the same
lowest-same : (p q : Store → ℕ → Bool) (make : Work ℕ) (s : Store) → ((t : ℕ) → p s t ≡ q s t) → lowest p make s ≡ lowest q make s
unfolding lowest lookup
lowest-same p q make s f = rw (first-same (λ i. p s (suc i)) (λ i. q s (suc i)) (count s) (λ i h. f (suc i)))

length_is_lem : (s : Store) (a : ℕ) → Recorded s → make_length a s ≡ make_sides 4 a 0 s
unfolding make_length make_sides length_of sides_of
length_is_lem s a good = lowest-same (length_of a) (sides_of 4 a 0) (add_term 4 a 0) s (λ t. decide (eqb (kind s t) 4)
    (λ e. rw (good.length_second t (eqb-true _ _ e), e) (go (eqb (term s t).first a)))
    (λ e. rw e))
  where
    go : (b : Bool) → b ≡ (b && true)
    go true = refl
    go false = refl

equation-is : (s : Store) (a b : ℕ) → make_equation a b s ≡ make_sides 5 a b s
unfolding make_equation make_sides equation_of sides_of
equation-is s a b = lowest-same (equation_of a b) (sides_of 5 a b) (add_term 5 a b) s (λ t. refl)

module _ (m m' : Lent) (c : State) (o : Out ℕ) (ready : Ready m c) where
  pub length-made : (a : ℕ) → length_arguments a (store_of m c) ≡ true → Building (make_sides 4 a 0) m m' c o → Working (make_length a) m m' c o
  length-made a good b = works ready (λ s t e. made-good (length-fit (store_of m c) s t ready.audited a good e)) (building_is (length_is_lem (store_of m c) a ready.audited.recorded) b)

  pub equation-made : (a b : ℕ) → equation_arguments a b (store_of m c) ≡ true → Building (make_sides 5 a b) m m' c o → Working (make_equation a b) m m' c o
  equation-made x y good b = works ready (λ s t e. made-good (equation-fit (store_of m c) s t ready.audited x y good e)) (building_is (equation-is (store_of m c) x y) b)

-- CHAINS: `Walked` says that i values are passed, and what is left of the chain decides

pub record Walked (e : List ℕ) (n : ℕ) (w : List ℕ) (c at i : ℕ) : Type 0 where
  pub upto : i ≤ length w
  pub rest : same_word (firsts (chain_in (cells_view e n) at)) (drop i w) ≡ same_word (firsts (chain_in (cells_view e n) c)) w

pub walked_none : (e : List ℕ) (n : ℕ) (w : List ℕ) (c : ℕ) → Walked e n w c c 0
walked_none e n w c = record { upto = omega arith; rest = refl }

module _ (e : List ℕ) (n : ℕ) (w : List ℕ) (c at i : ℕ) (up : Ascends (cells_view e n)) (h : Walked e n w c at i) (b : Bool) (in_it : b ≡ within n at) where
  size : length (cells_view e n) ≡ n
  size = table-length (λ j. cell_at e (suc j)) n

  none_here : b ≡ false → chain_in (cells_view e n) at ≡ []
  none_here f = chain-none (cells_view e n) at (rw size (sym in_it ∙ f))

  one-here : b ≡ true → chain_in (cells_view e n) at ≡ ((cell_at e at).value, (cell_at e at).other) ∷ chain_in (cells_view e n) (cell_at e at).next
  one-here f =
      let q = sym in_it ∙ f in
      let s = cell-is e n at (within_low n at q) (within-high n at q) in
      chain-is (cells_view e n) at up (rw size q) ∙ ap (λ (x : Cell). (x.value, x.other) ∷ chain_in (cells_view e n) x.next) s

  pub walk_ends : i < length w → b ≡ false → false ≡ same_word (firsts (chain_in (cells_view e n) c)) w
  unfolding firsts same_word
  walk_ends l f =
      let z : same_word (firsts (chain_in (cells_view e n) at)) (drop i w) ≡ false = rw (none_here f, drop-cons w i 0 l) in
      sym z ∙ h.rest

  pub walk-differs : (v : ℕ) → i < length w → b ≡ true → v ≡ (cell_at e at).value → (v ≡ get_or w i 0 → ⊥) → false ≡ same_word (firsts (chain_in (cells_view e n) c)) w
  unfolding firsts same_word
  walk-differs v l f q d =
      let z : same_word (firsts (chain_in (cells_view e n) at)) (drop i w) ≡ false
      = rw (one-here f, drop-cons w i 0 l) (left_false _ _ (ne_eqb _ _ (λ p. d (q ∙ p)))) in
      sym z ∙ h.rest

  pub walk-on : (v x : ℕ) → i < length w → b ≡ true → v ≡ (cell_at e at).value → v ≡ get_or w i 0 → x ≡ (cell_at e at).next → Walked e n w c x (i + 1)
  unfolding firsts same_word
  walk-on v x l f q p y =
      let z : same_word (firsts (chain_in (cells_view e n) at)) (drop i w) ≡ same_word (firsts (chain_in (cells_view e n) x)) (drop (i + 1) w)
      = rw (one-here f, drop-cons w i 0 l, ← y, add-one i, ← p, ← q, eq-eqb v v refl) in
      record { upto = omega arith; rest = sym z ∙ h.rest }

  pub walk_over : length w ≤ i → not b ≡ same_word (firsts (chain_in (cells_view e n) c)) w
  unfolding firsts same_word
  walk_over l = decide b
      (λ f. let z : same_word (firsts (chain_in (cells_view e n) at)) (drop i w) ≡ false = rw (one-here f, drop_of_length-le w {i = i} l) in rw f (sym z ∙ h.rest))
      (λ f. let z : same_word (firsts (chain_in (cells_view e n) at)) (drop i w) ≡ true = rw (none_here f, drop_of_length-le w {i = i} l) in rw f (sym z ∙ h.rest))

-- CONCATENATIONS

module _ (m : Lent) (c : State) (w : List ℕ) where
  parts-found : first_below (λ i. has_parts m.terms (cells_view m.cells c.cells) w (suc i)) c.terms ≡ lookup (concat_of w) (store_of m c)
  unfolding lookup has_parts concat_of
  parts-found =
      rw (table-length (λ i. term_at m.terms (suc i)) c.terms)
      (first-same (λ i. has_parts m.terms (cells_view m.cells c.cells) w (suc i)) (λ i. concat_of w (store_of m c) (suc i)) c.terms (λ i h.
      ap (λ (y : Record). eqb y.kind 3 && same_word (firsts (chain_in (cells_view m.cells c.cells) y.first)) w)
      (sym (term_is m.terms c.terms (suc i) (omega arith) h))))

-- a concatenation of these parts lies in their bucket
pub parts_searchable : (m : Lent) (c : State) (w : List ℕ) → Ready m c → Searchable m.terms c.terms (bucket_of 3 w) (has_parts m.terms (cells_view m.cells c.cells) w)
unfolding has_parts
parts_searchable m c w ready = record { f = bucket (store_of m c); indexed = ready-index ready; small = bucket-small 3 w; lies = lies }
  where
    lies : (t : ℕ) → within c.terms t ≡ true → has_parts m.terms (cells_view m.cells c.cells) w t ≡ true → bucket (store_of m c) t ≡ bucket_of 3 w
    lies t v q =
        let is = term_is m.terms c.terms t (within_low c.terms t v) (within-high c.terms t v) in
        bucket-parts (store_of m c) t w (ap (λ (z : Record). z.kind) is ∙ eqb-true _ _ (both_left _ _ q))
        (ap (λ (z : Record). firsts (chain_in (cells_view m.cells c.cells) z.first)) is ∙ word_is _ w (both_right (eqb (term_at m.terms t).kind 3) _ q))

module _ (t e h r ks : List ℕ) (c : State) (w : List ℕ) (f : Bool) (cells-here : f ≡ leb (c.cells + length w) (cell_room e)) where
  pub append-long : not f ≡ true → Building (append_parts w) (lent t e h r ks) (lent t e h r ks) c (made (Err Room) (lent t e h r ks))
  unfolding add_chain
  append-long q = building_stopped (rw (table-length (λ i. cell_at e (suc i)) c.cells, ← cells-here, not-true f q))

  -- what a test of cells that passed says
  pub append-limit : Sized (lent t e h r ks) c → not f ≡ false → c.cells + length w ≤ cell_limit
  append-limit z q = cells-limit e c.cells (length w) z.cell_room (sym cells-here ∙ not-false f q)

  pub append-words : Sized (lent t e h r ks) c → not f ≡ false → cell_words (c.cells + length w) ≤ length e
  append-words z q = cells-room e c.cells (length w) z.cell_room (sym cells-here ∙ not-false f q)

  module _ (q : not f ≡ false) (g : Bool) (term-here : g ≡ ltb c.terms (term_room t)) where
    pub append-full : not g ≡ true → Building (append_parts w) (lent t e h r ks) (lent t e h r ks) c (made (Err Room) (lent t e h r ks))
    unfolding add_chain add_term
    append-full p =
        building_stopped
        (rw (table-length (λ i. cell_at e (suc i)) c.cells, ← cells-here, not-false f q, table-length (λ i. term_at t (suc i)) c.terms, ← term-here, not-true g p))

    pub append-made : Ready (lent t e h r ks) c → (t' e' : List ℕ) (d d' : State) (x : ℕ) → not g ≡ false → x ≡ bucket_of 3 w → ChainPut e e' c.cells w → length e' ≡ length e
        → TermPut t t' c.terms 3 (c.cells + 1) 0 x → length t' ≡ length t → d ≡ more_cells c (length w) → d' ≡ one_term d
        → Building (append_parts w) (lent t e h r ks) (lent t' e' h r ks) c (made (Ok ((c.terms + 1), d')) (lent t' e' h r ks))
    unfolding add_chain
    append-made ready t' e' d d' z p i a la b lb x y = record {
      says = chained ∙ termed;
      kept = record { store = rw (a.kept, b.kept, la, lb, a.zero, b.zero); index = b.linked.kept };
      indexed = λ v o j same. indexed-made (lent t e h r ks) c t' z (cells_view e c.cells ++ chain_from (suc (length (cells_view e c.cells))) w) (chars_view h c.chars) 3 (suc (length (cells_view e c.cells))) 0
          (store_of (lent t' e' h r ks) d') (store_of (lent t' e' h r ks) v) ready b.linked (one_store j) grown same (λ s u. made-parts w (store_of (lent t e h r ks) c) s u ∙ sym i);
    }
      where
        grown : store_of (lent t' e' h r ks) d'
            ≡ grow (store_of (lent t e h r ks) c) (cells_view e c.cells ++ chain_from (suc (length (cells_view e c.cells))) w) (chars_view h c.chars) 3 (suc (length (cells_view e c.cells))) 0
        grown =
            rw (y, x, add-one c.terms, b.grown, a.grown, la, lb, a.zero, b.zero, table-length (λ i. term_at t (suc i)) c.terms, table-length (λ i. cell_at e (suc i)) c.cells, add-one c.cells)

        chained : append_parts w (store_of (lent t e h r ks) c) ≡ add_term 3 (c.cells + 1) 0 (store_of (lent t e' h r ks) (more_cells c (length w)))
        chained =
            rw (table-length (λ i. cell_at e (suc i)) c.cells, ← cells-here, not-false f q, add-one c.cells, a.grown, la, a.zero)

        termed : add_term 3 (c.cells + 1) 0 (store_of (lent t e' h r ks) (more_cells c (length w))) ≡ ok (store_of (lent t' e' h r ks) d') (c.terms + 1)
        termed = rw (y, x) (term-added t e' h r ks (more_cells c (length w)) 3 (c.cells + 1) 0 g term-here t' b lb (not-false g p))

module _ (t e h r ks : List ℕ) (c : State) (w : List ℕ) (u : ℕ)
    (look : u ≡ number_of (first_below (λ i. has_parts t (cells_view e c.cells) w (suc i)) c.terms)) where
  sought : u ≡ number_of (lookup (concat_of w) (store_of (lent t e h r ks) c))
  sought = look ∙ ap number_of (parts-found (lent t e h r ks) c w)

  found : (u ≡ 0 → ⊥) → make_concat w (store_of (lent t e h r ks) c) ≡ ok (store_of (lent t e h r ks) c) u
  unfolding make_concat
  found d = lowest-old (concat_of w) (append_parts w) (store_of (lent t e h r ks) c) u sought d

  absent : u ≡ 0 → make_concat w (store_of (lent t e h r ks) c) ≡ append_parts w (store_of (lent t e h r ks) c)
  unfolding make_concat
  absent z = lowest-new (concat_of w) (append_parts w) (store_of (lent t e h r ks) c) u sought z

  module _ (ready : Ready (lent t e h r ks) c) where
    pub concat-old : (u ≡ 0 → ⊥) → Working (make_concat w) (lent t e h r ks) (lent t e h r ks) c (made (Ok (u, c)) (lent t e h r ks))
    concat-old d = working_same ready (found d)

    pub concat-new : (m' : Lent) (o : Out ℕ) → concat_arguments w (store_of (lent t e h r ks) c) ≡ true → u ≡ 0 → Building (append_parts w) (lent t e h r ks) m' c o → Working (make_concat w) (lent t e h r ks) m' c o
    concat-new m' o good z b = works ready (λ s i q. made-good (concat-fit (store_of (lent t e h r ks) c) s i ready.audited w good q)) (building_is (absent z) b)
