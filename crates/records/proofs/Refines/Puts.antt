-- The views after records were written above the count, or a term's record changed.
use mathlib.Core.Path.{◌≡◌, refl, sym, ap, ◌∙◌}
use mathlib.Core.Bool.{true}
use mathlib.Core.List.{List, [], ◌∷◌, ◌++◌, append_assoc, append-nil}
use Prim.Native.Nat.{ℕ, suc, ◌+◌, ◌-◌, ◌*◌, ◌/◌, ◌≤◌, ◌<◌}
use native.Mathlib.Decide.{ℕ_discrete}
use native.Mathlib.Numerals.{add-one}
use native.Mathlib.Omega.{arith}
use lib.ListN.{length, get_or, set, take, drop, drop_of_length-le, length-set, get_or-append}
use lib.Seq.{sets, sets-eq, get_or-append-add, length-take-le, drop-cons, length-sets, get_or-set_same, get_or-set_other, ext_get_or}
use Rattle.records.specs.View.{buckets, term_width, cell_width, term_place, cell_place, term_at, cell_at, pair_at, terms_view, cells_view, pairs_view, zero_term, zero_cell, term_words, cell_words}
use Rattle.records.specs.Store.{Term, no_term, within}
use Rattle.records.specs.Make.{own, chain_from, with_class, with_edge}
use Rattle.records.specs.Working.Indexing.{Reached, at_head, after_last, Tied}
use Rattle.records.specs.Working.Puts.{WordsPut, TermPut, IndexLeft, TermSet, CellPut, ChainPut, PairPut}
use Rattle.records.proofs.Lists.{table-suc, table_same, table-length, table_at_lem, within_low, within-high}
use Rattle.records.proofs.Views.{term-same, terms-agree, zero_term-same, zero_term-agrees, pairs-agree, cells_agree, zero_cell-agrees}
use Rattle.records.proofs.IndexLaws.{tied_linked}

-- A RUN OF STORES

pub sets_away : (vs l : List ℕ) (i j : ℕ) → (i ≤ j → j < i + length vs → ⊥) → get_or (sets l i vs) j 0 ≡ get_or l j 0
sets_away [] l i j z = refl
sets_away (a ∷ vs) l i j z = sets_away vs (set l i a) (suc i) j (λ p q. z (omega arith) (omega arith)) ∙ get_or-set_other l i j a 0 (λ e. z (omega arith) (omega arith))

module _ (l : List ℕ) (i : ℕ) (vs : List ℕ) (fits : i + length vs ≤ length l) where
  pub sets_below : (j : ℕ) → j < i → get_or (sets l i vs) j 0 ≡ get_or l j 0
  sets_below j h = sets_away vs l i j (λ a b. omega arith)

  pub sets_at : (k : ℕ) → k < length vs → get_or (sets l i vs) (i + k) 0 ≡ get_or vs k 0
  sets_at k h =
      let n : length (take i l) ≡ i = length-take-le i l (omega arith) in
      let e : get_or (take i l ++ (vs ++ drop (i + length vs) l)) (length (take i l) + k) 0 ≡ get_or (vs ++ drop (i + length vs) l) k 0
      = get_or-append-add (take i l) (vs ++ drop (i + length vs) l) k 0 in
      rw (sets-eq vs l i fits, append_assoc) ((rw n at e) ∙ get_or-append vs (drop (i + length vs) l) 0 k h)

-- ONE TERM

-- its own words
module _ (l : List ℕ) (n k a b : ℕ) (room : term_words (n + 1) ≤ length l) where
  words-put_sets : WordsPut l (sets l (term_words n) (k ∷ a ∷ b ∷ (n + 1) ∷ (n + 1) ∷ 0 ∷ 0 ∷ 0 ∷ 0 ∷ [])) n k a b
  words-put_sets = record { grown = table-suc _ n ∙ (let p = kept_is in let q = here-is in cc); last = at 8 0 (omega arith) refl; below = λ i h. sets_below l (term_words n) vs fits i (omega arith) }
    where
      vs : List ℕ
      vs = k ∷ a ∷ b ∷ (n + 1) ∷ (n + 1) ∷ 0 ∷ 0 ∷ 0 ∷ 0 ∷ []

      l' : List ℕ
      l' = sets l (term_words n) vs

      fits : term_words n + length vs ≤ length l
      fits = omega arith

      kept_is : terms_view l' n ≡ terms_view l n
      kept_is = terms-agree l l' n (sets_below l (term_words n) vs fits)

      at : (j v : ℕ) → j < term_width → get_or vs j 0 ≡ v → get_or l' (term_place (suc n) j) 0 ≡ v
      at j v h e = ap (λ (i : ℕ). get_or l' (term_place i j) 0) (sym (add-one n)) ∙ sets_at l (term_words n) vs fits j h ∙ e

      here-is : term_at l' (suc n) ≡ own (suc n) k a b
      here-is =
          let a0 = at 0 k (omega arith) refl in
          let a1 = at 1 a (omega arith) refl in
          let a2 = at 2 b (omega arith) refl in
          let a3 = at 3 (suc n) (omega arith) (add-one n) in
          let a4 = at 4 (suc n) (omega arith) (add-one n) in
          let a5 = at 5 0 (omega arith) refl in
          let a6 = at 6 0 (omega arith) refl in
          let a7 = at 7 0 (omega arith) refl in cc

  pub words-put : WordsPut l
      (set (set (set (set (set (set (set (set (set l (term_words n) k) (term_words n + 1) a) (term_words n + 2) b) (term_words n + 3) (n + 1)) (term_words n + 4) (n + 1))
      (term_words n + 5) 0) (term_words n + 6) 0) (term_words n + 7) 0) (term_words n + 8) 0) n k a b
  words-put =
      let e1 : term_words n + 1 ≡ suc (term_words n) = omega arith in
      let e2 : term_words n + 2 ≡ suc (suc (term_words n)) = omega arith in
      let e3 : term_words n + 3 ≡ suc (suc (suc (term_words n))) = omega arith in
      let e4 : term_words n + 4 ≡ suc (suc (suc (suc (term_words n)))) = omega arith in
      let e5 : term_words n + 5 ≡ suc (suc (suc (suc (suc (term_words n))))) = omega arith in
      let e6 : term_words n + 6 ≡ suc (suc (suc (suc (suc (suc (term_words n)))))) = omega arith in
      let e7 : term_words n + 7 ≡ suc (suc (suc (suc (suc (suc (suc (term_words n))))))) = omega arith in
      let e8 : term_words n + 8 ≡ suc (suc (suc (suc (suc (suc (suc (suc (term_words n)))))))) = omega arith in
      rw (e1, e2, e3, e4, e5, e6, e7, e8) words-put_sets

-- the word of the index that names it is a head or the ninth word of a counted term
module _ (l : List ℕ) (n b : ℕ) (small : b < buckets) where
  in_no_record : {p : ℕ} → Reached l n b p → (t k : ℕ) → k < 8 → term_place t k ≡ p → ⊥
  in_no_record (at_head e) t k h q = omega arith
  in_no_record (after_last u w e f) t k h q = omega arith

  not-zero-ninth : {p : ℕ} → Reached l n b p → term_place 0 8 ≡ p → ⊥
  not-zero-ninth (at_head e) q = omega arith
  not-zero-ninth (after_last u w e f) q = let low = within_low n u w in omega arith

  module _ (l' : List ℕ) (h : Tied l l' n b) where
    tied_away : (i : ℕ) → (i ≡ h.place → ⊥) → get_or l' i 0 ≡ get_or l i 0
    tied_away i z = ap (λ (x : List ℕ). get_or x i 0) h.is ∙ get_or-set_other l h.place i (suc n) 0 z

    pub tied_term : (t : ℕ) → term_at l' t ≡ term_at l t
    tied_term t = term-same l l' t (λ k c. tied_away (term_place t k) (in_no_record h.reached t k c))

    pub tied_terms : (m : ℕ) → terms_view l' m ≡ terms_view l m
    tied_terms m = table_same (λ i. term_at l' (suc i)) (λ i. term_at l (suc i)) m (λ i c. tied_term (suc i))

    pub tied_zero : zero_term l' ≡ zero_term l
    tied_zero = zero_term-same l l' (tied_term 0) (tied_away (term_place 0 8) (not-zero-ninth h.reached))

    -- the two together
    pub term-put : (l'' : List ℕ) (k x y : ℕ) → term_words (n + 1) ≤ length l → WordsPut l' l'' n k x y → TermPut l l'' n k x y b
    term-put l'' k x y room p = record {
      grown = p.grown ∙ ap (λ (ts : List Term). ts ++ (own (suc n) k x y ∷ [])) (tied_terms n);
      kept = terms-agree l' l'' n below ∙ tied_terms n;
      zero = zero_term-agrees l' l'' n below ∙ tied_zero;
      linked = tied_linked small (omega arith) h p;
    }
      where
        below : (i : ℕ) → i < term_words n → get_or l'' i 0 ≡ get_or l' i 0
        below i c = p.below i (omega arith)

-- A TERM'S RECORD CHANGED

-- what is known of each record is known of each view
module _ (l l' : List ℕ) (t : ℕ) (x : Term) (long : length l' ≡ length l) (here : term_at l' t ≡ x) (away : (u : ℕ) → (u ≡ t → ⊥) → term_at l' u ≡ term_at l u) where
  view_set : (n : ℕ) → within n t ≡ true → terms_view l' n ≡ set (terms_view l n) (t - 1) x
  view_set n h =
      let low = within_low n t h in
      let high = within-high n t h in
      let k : length (terms_view l n) ≡ n = table-length (λ i. term_at l (suc i)) n in
      let k' : length (terms_view l' n) ≡ n = table-length (λ i. term_at l' (suc i)) n in
      ext_get_or no_term (terms_view l' n) (set (terms_view l n) (t - 1) x) (k' ∙ sym (length-set (terms_view l n) (t - 1) x ∙ k)) (λ i b.
      let c : i < n = omega arith in
      table_at_lem (λ j. term_at l' (suc j)) n i no_term c ∙ each i c low high k (ℕ_discrete (suc i) t))
    where
      each : (i : ℕ) → i < n → 0 < t → t ≤ n → length (terms_view l n) ≡ n → Dec (suc i ≡ t) → term_at l' (suc i) ≡ get_or (set (terms_view l n) (t - 1) x) i no_term
      each i c low high k (yes e) =
          let f : i ≡ t - 1 = omega arith in
          ap (term_at l') e ∙ here ∙ sym (ap (λ (j : ℕ). get_or (set (terms_view l n) (t - 1) x) j no_term) f ∙ get_or-set_same (terms_view l n) (t - 1) x no_term (omega arith))
      each i c low high k (no z) =
          away (suc i) z ∙ sym (get_or-set_other (terms_view l n) (t - 1) i x no_term (λ e. z (omega arith)) ∙ table_at_lem (λ j. term_at l (suc j)) n i no_term c)

  term-set : IndexLeft l l' → TermSet l l' t x
  term-set i = record { long = long; here = here; away = away; terms = view_set; index = i }

-- words written within record t, from its word k on, and not its ninth
module _ (l : List ℕ) (t k : ℕ) (vs : List ℕ) (fits : k + length vs ≤ 8) where
  record-away : (u : ℕ) → (u ≡ t → ⊥) → term_at (sets l (term_place t k) vs) u ≡ term_at l u
  record-away u z = term-same l (sets l (term_place t k) vs) u (λ j h. sets_away vs l (term_place t k) (term_place u j) (λ a b. z (omega arith)))

  index-away : IndexLeft l (sets l (term_place t k) vs)
  index-away = record {
    heads = λ b h. sets_away vs l (term_place t k) b (λ p q. omega arith);
    nexts = λ u. sets_away vs l (term_place t k) (term_place u 8) (λ p q. omega arith);
  }

  words-set : (x : Term) → term_at (sets l (term_place t k) vs) t ≡ x → TermSet l (sets l (term_place t k) vs) t x
  words-set x e = term-set l (sets l (term_place t k) vs) t x (length-sets l (term_place t k) vs) e record-away index-away

module _ (l : List ℕ) (t p : ℕ) (room : term_words t ≤ length l) where
  pub class-set : TermSet l (set l (term_place t 3) p) t (with_class (term_at l t) p)
  class-set = words-set l t 3 (p ∷ []) (omega arith) (with_class (term_at l t) p) here-is
    where
      away : (j : ℕ) → (j ≡ 3 → ⊥) → get_or (set l (term_place t 3) p) (term_place t j) 0 ≡ get_or l (term_place t j) 0
      away j z = get_or-set_other l (term_place t 3) (term_place t j) p 0 (λ e. z (omega arith))

      here-is : term_at (set l (term_place t 3) p) t ≡ with_class (term_at l t) p
      here-is =
          let a0 = away 0 (λ e. omega arith) in
          let a1 = away 1 (λ e. omega arith) in
          let a2 = away 2 (λ e. omega arith) in
          let a3 = get_or-set_same l (term_place t 3) p 0 (omega arith) in
          let a4 = away 4 (λ e. omega arith) in
          let a5 = away 5 (λ e. omega arith) in
          let a6 = away 6 (λ e. omega arith) in
          let a7 = away 7 (λ e. omega arith) in cc

edge-words : (l l' : List ℕ) (t p k v s : ℕ) → ((j : ℕ) → j < 4 → get_or l' (term_place t j) 0 ≡ get_or l (term_place t j) 0)
    → get_or l' (term_place t 4) 0 ≡ p → get_or l' (term_place t 5) 0 ≡ k → get_or l' (term_place t 6) 0 ≡ v → get_or l' (term_place t 7) 0 ≡ s → term_at l' t ≡ with_edge (term_at l t) p k v s
edge-words l l' t p k v s h a4 a5 a6 a7 =
    let a0 = h 0 (omega arith) in
    let a1 = h 1 (omega arith) in
    let a2 = h 2 (omega arith) in
    let a3 = h 3 (omega arith) in cc

module _ (l : List ℕ) (t p k v s : ℕ) (room : term_words t ≤ length l) where
  edge-set_sets : TermSet l (sets l (term_place t 4) (p ∷ k ∷ v ∷ s ∷ [])) t (with_edge (term_at l t) p k v s)
  edge-set_sets = words-set l t 4 vs (omega arith) (with_edge (term_at l t) p k v s) here-is
    where
      vs : List ℕ
      vs = p ∷ k ∷ v ∷ s ∷ []

      away : (j : ℕ) → j < 4 → get_or (sets l (term_place t 4) vs) (term_place t j) 0 ≡ get_or l (term_place t j) 0
      away j h = sets_away vs l (term_place t 4) (term_place t j) (λ a b. omega arith)

      at : (j w i : ℕ) → j < 4 → i ≡ term_place t 4 + j → get_or vs j 0 ≡ w → get_or (sets l (term_place t 4) vs) i 0 ≡ w
      at j w i h q e = ap (λ (i : ℕ). get_or (sets l (term_place t 4) vs) i 0) q ∙ sets_at l (term_place t 4) vs (omega arith) j h ∙ e

      here-is : term_at (sets l (term_place t 4) vs) t ≡ with_edge (term_at l t) p k v s
      here-is = edge-words l (sets l (term_place t 4) vs) t p k v s away (at 0 p (term_place t 4) (omega arith) (omega arith) refl) (at 1 k (term_place t 5) (omega arith) (omega arith) refl)
          (at 2 v (term_place t 6) (omega arith) (omega arith) refl) (at 3 s (term_place t 7) (omega arith) (omega arith) refl)

  pub edge-set : TermSet l (set (set (set (set l (term_place t 4) p) (term_place t 5) k) (term_place t 6) v) (term_place t 7) s) t (with_edge (term_at l t) p k v s)
  edge-set =
      let e5 : term_place t 5 ≡ suc (term_place t 4) = omega arith in
      let e6 : term_place t 6 ≡ suc (suc (term_place t 4)) = omega arith in
      let e7 : term_place t 7 ≡ suc (suc (suc (term_place t 4))) = omega arith in
      rw (e5, e6, e7) edge-set_sets

-- ONE PAIR

module _ (l : List ℕ) (n a b : ℕ) where
  pub pair_put : n < length l / 2 → PairPut l (set (set l (2 * n) a) (2 * n + 1) b) n a b
  pair_put room = record { grown = table-suc _ n ∙ (let p = kept_is in let q = last-is in cc); kept = kept_is }
    where
      vs : List ℕ
      vs = a ∷ b ∷ []

      l' : List ℕ
      l' = set (set l (2 * n) a) (2 * n + 1) b

      same : l' ≡ sets l (2 * n) vs
      same = let e : 2 * n + 1 ≡ suc (2 * n) = omega arith in rw e

      fits : 2 * n + length vs ≤ length l
      fits = omega arith

      kept_is : pairs_view l' n ≡ pairs_view l n
      kept_is = rw same (pairs-agree l (sets l (2 * n) vs) n (sets_below l (2 * n) vs fits))

      last-is : pair_at l' n ≡ (a, b)
      last-is = rw same (let a0 = sets_at l (2 * n) vs fits 0 (omega arith) in let a1 = sets_at l (2 * n) vs fits 1 (omega arith) in cc)

-- ONE CELL, AND A CHAIN OF THEM

module _ (l : List ℕ) (n v x : ℕ) where
  pub cell-put : cell_words (n + 1) ≤ length l → CellPut l (set (set (set l (cell_words n) v) (cell_words n + 1) 0) (cell_words n + 2) x) n v x
  cell-put room = record { grown = table-suc _ n ∙ (let p = kept_is n (omega arith) in let q = last-is in cc); kept = kept_is; zero = zero_is }
    where
      vs : List ℕ
      vs = v ∷ 0 ∷ x ∷ []

      l' : List ℕ
      l' = set (set (set l (cell_words n) v) (cell_words n + 1) 0) (cell_words n + 2) x

      same : l' ≡ sets l (cell_words n) vs
      same =
          let e : cell_words n + 1 ≡ suc (cell_words n) = omega arith in
          let f : cell_words n + 2 ≡ suc (suc (cell_words n)) = omega arith in rw (e, f)

      fits : cell_words n + length vs ≤ length l
      fits = omega arith

      kept_is : (i : ℕ) → i ≤ n → cells_view l' i ≡ cells_view l i
      kept_is i h = rw same (cells_agree l (sets l (cell_words n) vs) i (λ j k. sets_below l (cell_words n) vs fits j (omega arith)))

      zero_is : zero_cell l' ≡ zero_cell l
      zero_is = rw same (zero_cell-agrees l (sets l (cell_words n) vs) n (sets_below l (cell_words n) vs fits))

      at : (j w : ℕ) → j < cell_width → get_or vs j 0 ≡ w → get_or l' (cell_place (suc n) j) 0 ≡ w
      at j w h e = ap (λ (i : ℕ). get_or l' (cell_place i j) 0) (sym (add-one n)) ∙ rw same (sets_at l (cell_words n) vs fits j h ∙ e)

      last-is : cell_at l' (suc n) ≡ record { value = v; other = 0; next = x }
      last-is = let a0 = at 0 v (omega arith) refl in let a1 = at 1 0 (omega arith) refl in let a2 = at 2 x (omega arith) refl in cc

-- the cell of a place that is not the last, and of the last
module _ (w : List ℕ) (c i : ℕ) where
  from_next : suc i < length w → chain_from c (drop i w) ≡ record { value = get_or w i 0; other = 0; next = suc c } ∷ chain_from (suc c) (drop (suc i) w)
  unfolding chain_from
  from_next h = rw (drop-cons w i 0 (omega arith), drop-cons w (suc i) 0 h)

  from_last : suc i ≡ length w → chain_from c (drop i w) ≡ record { value = get_or w i 0; other = 0; next = 0 } ∷ []
  unfolding chain_from
  from_last h = rw (drop-cons w i 0 (omega arith), drop_of_length-le w {i = suc i} (omega arith))

-- i cells of the chain are written
pub record Chained (l l' : List ℕ) (n : ℕ) (w : List ℕ) (i : ℕ) : Type 0 where
  pub long : length l' ≡ length l
  pub kept : cells_view l' n ≡ cells_view l n
  pub zero : zero_cell l' ≡ zero_cell l
  pub rest : cells_view l' (n + i) ++ chain_from (suc (n + i)) (drop i w) ≡ cells_view l n ++ chain_from (suc n) w

pub chained-none : (l : List ℕ) (n : ℕ) (w : List ℕ) → Chained l l n w 0
chained-none l n w = record { long = refl; kept = refl; zero = refl; rest = rw (native.Mathlib.Nat.add-zero n) }

module _ (l l' : List ℕ) (n : ℕ) (w : List ℕ) (i : ℕ) (h : Chained l l' n w i) (l'' : List ℕ) (v x : ℕ) (p : CellPut l' l'' (n + i) v x) (e : v ≡ get_or w i 0) where
  pub chained-one : i + 1 < length w → x ≡ n + i + 2 → length l'' ≡ length l' → Chained l l'' n w (i + 1)
  chained-one b f g = record { long = g ∙ h.long; kept = p.kept n (omega arith) ∙ h.kept; zero = p.zero ∙ h.zero; rest = rest_is ∙ h.rest }
    where
      rest_is : cells_view l'' (n + (i + 1)) ++ chain_from (suc (n + (i + 1))) (drop (i + 1) w) ≡ cells_view l' (n + i) ++ chain_from (suc (n + i)) (drop i w)
      rest_is =
          let a : i + 1 ≡ suc i = add-one i in
          let s : n + suc i ≡ suc (n + i) = omega arith in
          let y : n + i + 2 ≡ suc (suc (n + i)) = omega arith in
          rw (a, s, p.grown, from_next w (suc (n + i)) i (omega arith), append_assoc, e, f, y)

  pub chained-last : suc i ≡ length w → x ≡ 0 → ChainPut l l'' n w
  chained-last b f = record { grown = grown-is ∙ h.rest; kept = p.kept n (omega arith) ∙ h.kept; zero = p.zero ∙ h.zero }
    where
      grown-is : cells_view l'' (n + length w) ≡ cells_view l' (n + i) ++ chain_from (suc (n + i)) (drop i w)
      grown-is =
          let s : n + length w ≡ suc (n + i) = omega arith in
          rw (s, p.grown, from_last w (suc (n + i)) i b, e, f)

-- the loop's turn, and its last cell
pub chained-turn : (l l' : List ℕ) (n : ℕ) (w : List ℕ) (i last : ℕ) (l'' : List ℕ) → Chained l l' n w i → i < last → last + 1 ≡ length w
    → CellPut l' l'' (n + i) (get_or w i 0) (n + i + 2) → length l'' ≡ length l' → Chained l l'' n w (i + 1)
chained-turn l l' n w i last l'' h b e p g = chained-one l l' n w i h l'' _ _ p refl (omega arith) refl g

pub chained-end : (l l' : List ℕ) (n : ℕ) (w : List ℕ) (i last : ℕ) (l'' : List ℕ) → Chained l l' n w i → i ≤ last → last ≤ i → last + 1 ≡ length w
    → CellPut l' l'' (n + last) (get_or w last 0) 0 → ChainPut l l'' n w
chained-end l l' n w i last l'' h a b e p = let q : i ≡ last = omega arith in chained-last l l' n w last (rw q at h) l'' _ _ p refl (omega arith) refl

pub chain-empty : (l : List ℕ) (n : ℕ) (w : List ℕ) → length w ≡ 0 → ChainPut l l n w
unfolding chain_from
chain-empty l n [] e = record { grown = rw (native.Mathlib.Nat.add-zero n) (sym (append-nil (cells_view l n))); kept = refl; zero = refl }
chain-empty l n (x ∷ w) e = absurd (omega arith)
