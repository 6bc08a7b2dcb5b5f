-- The table of representatives: each way of adding a candidate, and what the table then says of a class.
use Rattle.std.specs.Prelude.{if◌then◌else◌}
use mathlib.Core.Path.{◌≡◌, refl, sym, ap, subst, ◌∙◌}
use mathlib.Core.Bool.{Bool, true, false, ◌&&◌, ◌||◌}
use mathlib.Core.List.{List, [], ◌∷◌, ◌++◌, append-nil, append_assoc}
use mathlib.Core.Option.{Option, none, some}
use Prim.Native.Nat.{ℕ, ◌+◌, ◌≤◌, ◌<◌}
use native.Mathlib.Numerals.{add-one}
use native.Mathlib.Omega.{arith}
use lib.ListN.{length, drop, set, get_or, length-set, drop_of_length-le}
use lib.Seq.{drop-cons, get_or-set_same, get_or-set_other}
use lib.Dec.{eqb, ltb}
use borrow.Author.Tests.{eqb-true, eqb-false, eq-eqb, ne_eqb, lt-ltb, le-ltb}
use Rattle.records.specs.Lists.{first_of, Every, none_left, and}
use Rattle.records.specs.Store.{Store, Term, within, term_in, root_in, class_up}
use Rattle.records.specs.View.{term_limit, terms_view}
use Rattle.records.specs.Working.Audited.{Closed}
use Rattle.records.specs.Working.ClimbEnds.{Ends}
use Rattle.records.proofs.Lists.{both_right, left_false, decide, clash, within-high, every_map, every_append, every_both}
use Rattle.records.proofs.Paths.{first-same, first-has}
use Rattle.records.proofs.Climbs.{climb-within, view_count}
use Rattle.records.proofs.ClimbEnds.{ends_more}
use Rattle.normalize.specs.Normalize.{or_first, representative}
use Rattle.normalize.specs.Working.Nodes.{is_constant_in, chosen, NodeOf, rank, with_node, with_nodes, node_at, Rooting, Keeps}

-- THE CODE'S WAYS

module _ (ts : List Term) where
  module _ (t r : ℕ) (node : List ℕ) (e : r ≡ root_in ts t) where
    pub node_free : get_or node r 0 ≡ 0 → set node r t ≡ with_node ts t node
    unfolding with_node
    node_free h = rw (← e, h)

    pub node_better : (old new : ℕ) → (get_or node r 0 ≡ 0 → ⊥) → old ≡ rank ts (get_or node r 0) → new ≡ rank ts t → old < new → set node r t ≡ with_node ts t node
    unfolding with_node
    node_better old new h p q l = rw (← e, ne_eqb (get_or node r 0) 0 h, ← p, ← q, lt-ltb old new l)

    pub node_stays : (old new : ℕ) → (get_or node r 0 ≡ 0 → ⊥) → old ≡ rank ts (get_or node r 0) → new ≡ rank ts t → new ≤ old → node ≡ with_node ts t node
    unfolding with_node
    node_stays old new h p q l = rw (← e, ne_eqb (get_or node r 0) 0 h, ← p, ← q, le-ltb old new l)

    pub at_none : get_or node r 0 ≡ 0 → t ≡ node_at ts node t
    unfolding node_at
    at_none h = rw (← e, h)

    pub at_some : (get_or node r 0 ≡ 0 → ⊥) → get_or node r 0 ≡ node_at ts node t
    unfolding node_at
    at_some h = rw (← e, ne_eqb (get_or node r 0) 0 h)

-- a root is a place of the table
pub root-place : (l : List ℕ) (n t r : ℕ) → n ≤ term_limit → within n t ≡ true → Closed (class_up (terms_view l n)) n → r ≡ root_in (terms_view l n) t → r < 513
root-place l n t r h w k e =
    let p : within n (root_in (terms_view l n) t) ≡ true = climb-within (class_up (terms_view l n)) n (length (terms_view l n)) t k w in
    let q = within-high n _ p in omega arith

-- one candidate more, and its root kept
pub keeps-more : (l : List ℕ) (n t r : ℕ) (node node' roots : List ℕ) → n ≤ term_limit → within n t ≡ true → Rooting (terms_view l n) n → Ends (class_up (terms_view l n)) n roots → r ≡ root_in (terms_view l n) t → node' ≡ with_node (terms_view l n) t node → Keeps (terms_view l n) n t node node' (set roots t r)
keeps-more l n t r node node' roots h w i k e a =
    record { adds = a; kept = ends_more _ _ h roots t r w (record { reached = rw (view_count l n) at (sym e); self = rw e (i.ends t w) }) k }

-- the loop over a list
module _ (ts : List Term) (l : List ℕ) where
  pub nodes-turn : (i x : ℕ) (node node' out : List ℕ) → i < length l → x ≡ get_or l i 0 → node' ≡ with_node ts x node → with_nodes ts (drop i l) node ≡ out → with_nodes ts (drop (i + 1) l) node' ≡ out
  unfolding with_nodes
  nodes-turn i x node node' out h e p q = let k = rw (drop-cons l i 0) at q in rw (add-one, p, e) k

  pub nodes-done : (i : ℕ) (node out : List ℕ) → length l ≤ i → with_nodes ts (drop i l) node ≡ out → node ≡ out
  unfolding with_nodes
  nodes-done i node out h q = rw (drop_of_length-le l h) at q

-- WHAT THE TABLE SAYS

module _ {A : Type 0} (p : A → Bool) where
  -- the first that passes, of a list with one more
  pub first-kept : (l : List A) (t x : A) → first_of p l ≡ some x → first_of p (l ++ t ∷ []) ≡ some x
  unfolding first_of
  first-kept [] t x e = let z : ◌≡◌ {A = ℕ} 0 1 = cc in absurd (omega arith)
  first-kept (y ∷ l) t x e = go (p y) (first-kept l t x) e
    where
      go : (b : Bool) → (first_of p l ≡ some x → first_of p (l ++ t ∷ []) ≡ some x) → ◌≡◌ {A = Option A} (elim b [ true ↦ some y | false ↦ first_of p l ]) (some x)
          → ◌≡◌ {A = Option A} (elim b [ true ↦ some y | false ↦ first_of p (l ++ t ∷ []) ]) (some x)
      go true ih d = d
      go false ih d = ih d

  pub first-last : (l : List A) (t : A) → first_of p l ≡ none → first_of p (l ++ t ∷ []) ≡ first_of p (t ∷ [])
  unfolding first_of
  first-last [] t e = refl
  first-last (y ∷ l) t e = go (p y) (first-last l t) e
    where
      go : (b : Bool) → (first_of p l ≡ none → first_of p (l ++ t ∷ []) ≡ first_of p (t ∷ [])) → ◌≡◌ {A = Option A} (elim b [ true ↦ some y | false ↦ first_of p l ]) none
          → ◌≡◌ {A = Option A} (elim b [ true ↦ some y | false ↦ first_of p (l ++ t ∷ []) ]) (first_of p (t ∷ []))
      go true ih d = let z : ◌≡◌ {A = ℕ} 0 1 = cc in absurd (omega arith)
      go false ih d = ih d

  pub first_skip : (l : List A) (t : A) → p t ≡ false → first_of p (l ++ t ∷ []) ≡ first_of p l
  unfolding first_of
  first_skip [] t e = rw (e, first_of)
  first_skip (y ∷ l) t e = go (p y) (first_skip l t e)
    where
      go : (b : Bool) → first_of p (l ++ t ∷ []) ≡ first_of p l → ◌≡◌ {A = Option A} (elim b [ true ↦ some y | false ↦ first_of p (l ++ t ∷ []) ]) (elim b [ true ↦ some y | false ↦ first_of p l ])
      go true ih = refl
      go false ih = ih

  pub none_passes : (l : List A) → first_of p l ≡ none → Every (λ a. p a ≡ false) l
  unfolding first_of
  none_passes [] e = none_left
  none_passes (a ∷ l) e = go (p a) refl (none_passes l) e
    where
      go : (b : Bool) → p a ≡ b → (first_of p l ≡ none → Every (λ a. p a ≡ false) l) → ◌≡◌ {A = Option A} (elim b [ true ↦ some a | false ↦ first_of p l ]) none → Every (λ a. p a ≡ false) (a ∷ l)
      go true q ih d = let z : ◌≡◌ {A = ℕ} 0 1 = cc in absurd (omega arith)
      go false q ih d = and q (ih d)

right_of : (a b : Bool) → a ≡ true → a && b ≡ false → b ≡ false
right_of true b e h = h
right_of false b e h = clash e refl

module _ (ts : List Term) where
  abbrev member : ℕ → ℕ → Bool
  member r t = eqb (root_in ts t) r

  abbrev constant : ℕ → ℕ → Bool
  constant r t = eqb (root_in ts t) r && is_constant_in ts t

  rank-low : (t : ℕ) → rank ts t ≤ 1
  unfolding rank
  rank-low t = go (is_constant_in ts t)
    where
      go : (b : Bool) → (if b then 1 else 0) ≤ 1
      go true = omega arith
      go false = omega arith

  chosen_by : (l : List ℕ) (r : ℕ) (x y : Option ℕ) → first_of (constant r) l ≡ x → first_of (member r) l ≡ y → chosen ts l r ≡ or_first x y 0
  unfolding chosen
  chosen_by l r x y p q = rw (p, q)

  -- a term of another class changes nothing
  chosen_skip : (l : List ℕ) (t r : ℕ) → eqb (root_in ts t) r ≡ false → chosen ts (l ++ t ∷ []) r ≡ chosen ts l r
  unfolding chosen
  chosen_skip l t r e = rw (first_skip (constant r) l t (left_false _ _ e), first_skip (member r) l t e)

  rank_is : (t : ℕ) (b : Bool) → is_constant_in ts t ≡ b → rank ts t ≡ (if b then 1 else 0)
  unfolding rank
  rank_is t b e = rw e

  module _ (t : ℕ) (node : List ℕ) where
    abbrev prev : ℕ
    prev = get_or node (root_in ts t) 0

    abbrev better : Bool
    better = eqb prev 0 || ltb (rank ts prev) (rank ts t)

    with_better : better ≡ true → with_node ts t node ≡ set node (root_in ts t) t
    unfolding with_node
    with_better e = rw e

    with_worse : better ≡ false → with_node ts t node ≡ node
    unfolding with_node
    with_worse e = rw e

    with_size : length (with_node ts t node) ≡ length node
    with_size = decide better (λ e. rw (with_better e) (length-set node (root_in ts t) t)) (λ e. ap length (with_worse e))

    with_other : (r : ℕ) → eqb (root_in ts t) r ≡ false → get_or (with_node ts t node) r 0 ≡ get_or node r 0
    with_other r d =
        decide better (λ e. rw (with_better e) (get_or-set_other node (root_in ts t) r t 0 (λ q. eqb-false _ _ d (sym q)))) (λ e. ap (λ (n : List ℕ). get_or n r 0) (with_worse e))

    with_here : root_in ts t < length node → better ≡ true → get_or (with_node ts t node) (root_in ts t) 0 ≡ t
    with_here h e = rw (with_better e) (get_or-set_same node (root_in ts t) t 0 h)

    with_old : better ≡ false → get_or (with_node ts t node) (root_in ts t) 0 ≡ prev
    with_old e = ap (λ (n : List ℕ). get_or n (root_in ts t) 0) (with_worse e)

    -- the entry of its own class, by what stood there
    module _ (l : List ℕ) (h : root_in ts t < length node) (k : Every (λ u. 0 < u) l) (i : prev ≡ chosen ts l (root_in ts t)) where
      abbrev r : ℕ
      r = root_in ts t

      itself : member r t ≡ true
      itself = eq-eqb r r refl

      -- a constant stood there
      over-constant : (u : ℕ) → first_of (constant r) l ≡ some u → get_or (with_node ts t node) r 0 ≡ chosen ts (l ++ t ∷ []) r
      over-constant u p =
          let f = first-has (constant r) l u k p in
          let c : prev ≡ u = i ∙ chosen_by l r (some u) _ p refl in
          let g = rank_is u true (both_right (member r u) _ f.1) in
          let z = rank-low t in
          let w = f.0 in
          let d : better ≡ false = rw (c, ne_eqb u 0 (λ q. omega arith)) (le-ltb (rank ts u) (rank ts t) (omega arith)) in
          with_old d ∙ c ∙ sym (chosen_by (l ++ t ∷ []) r (some u) _ (first-kept (constant r) l t u p) refl)

      -- another term, and there is no constant
      over-member : (u : ℕ) → first_of (constant r) l ≡ none → first_of (member r) l ≡ some u → get_or (with_node ts t node) r 0 ≡ chosen ts (l ++ t ∷ []) r
      unfolding first_of
      over-member u p q =
          let f = first-has (member r) l u (every_both k (none_passes (constant r) l p)) q in
          let c : prev ≡ u = i ∙ chosen_by l r none (some u) p q in
          let w = f.0.0 in
          let g = rank_is u false (right_of (member r u) _ f.1 f.0.1) in
          decide (is_constant_in ts t)
          (λ e.
          let z = rank_is t true e in
          let d : better ≡ true = rw (c, ne_eqb u 0 (λ q. omega arith)) (lt-ltb (rank ts u) (rank ts t) (omega arith)) in
          with_here h d ∙ sym (chosen_by (l ++ t ∷ []) r (some t) _ (first-last (constant r) l t p ∙ rw (itself, e, first_of)) refl))
          (λ e.
          let z = rank_is t false e in
          let d : better ≡ false = rw (c, ne_eqb u 0 (λ q. omega arith)) (le-ltb (rank ts u) (rank ts t) (omega arith)) in
          with_old d ∙ c ∙ sym (chosen_by (l ++ t ∷ []) r none (some u) (first-last (constant r) l t p ∙ rw (itself, e, first_of)) (first-kept (member r) l t u q)))

      -- none
      over_none : first_of (constant r) l ≡ none → first_of (member r) l ≡ none → get_or (with_node ts t node) r 0 ≡ chosen ts (l ++ t ∷ []) r
      unfolding first_of
      over_none p q =
          let c : prev ≡ 0 = i ∙ chosen_by l r none none p q in
          let d : better ≡ true = rw c in
          with_here h d
          ∙ decide (is_constant_in ts t) (λ e. sym (chosen_by (l ++ t ∷ []) r (some t) _ (first-last (constant r) l t p ∙ rw (itself, e, first_of)) refl))
          (λ e. sym (chosen_by (l ++ t ∷ []) r none (some t) (first-last (constant r) l t p ∙ rw (itself, e, first_of)) (first-last (member r) l t q ∙ rw (itself, first_of))))

      over : get_or (with_node ts t node) r 0 ≡ chosen ts (l ++ t ∷ []) r
      over = go (first_of (constant r) l) refl (first_of (member r) l) refl
        where
          go : (x : Option ℕ) → first_of (constant r) l ≡ x → (y : Option ℕ) → first_of (member r) l ≡ y → get_or (with_node ts t node) r 0 ≡ chosen ts (l ++ t ∷ []) r
          go (some u) p y q = over-constant u p
          go none p (some u) q = over-member u p q
          go none p none q = over_none p q

  pub node_more : (l node : List ℕ) (t : ℕ) → NodeOf ts l node → Every (λ u. 0 < u) l → root_in ts t ≤ term_limit → NodeOf ts (l ++ t ∷ []) (with_node ts t node)
  node_more l node t n k h = record {
    size = with_size t node ∙ n.size;
    entries = λ r i.
        decide (eqb (root_in ts t) r)
        (λ e. subst (λ (x : ℕ). get_or (with_node ts t node) x 0 ≡ chosen ts (l ++ t ∷ []) x) (eqb-true _ _ e) (over t node l (let z = n.size in omega arith) k (n.entries _ h)))
        (λ e. with_other t node r e ∙ n.entries r i ∙ sym (chosen_skip l t r e));
  }

  -- the candidates of a list after those of the table
  pub nodes-more : (l l' node : List ℕ) → NodeOf ts l node → Every (λ u. 0 < u) l → Every (λ u. (0 < u) × (root_in ts u ≤ term_limit)) l' → NodeOf ts (l ++ l') (with_nodes ts l' node)
  unfolding with_nodes
  nodes-more l [] node n k none_left = subst (λ (x : List ℕ). NodeOf ts x node) (sym (append-nil l)) n
  nodes-more l (t ∷ l') node n k (and h i) =
      subst (λ (x : List ℕ). NodeOf ts x (with_nodes ts l' (with_node ts t node))) (append_assoc l (t ∷ []) l')
      (nodes-more (l ++ t ∷ []) l' (with_node ts t node) (node_more l node t n k h.1) (every_append k (and h.0 none_left)) i)

  -- no candidate
  pub nodes-none : (node : List ℕ) → length node ≡ 513 → ((i : ℕ) → i < length node → get_or node i 0 ≡ 0) → NodeOf ts [] node
  unfolding chosen first_of
  nodes-none node e f = record { size = e; entries = λ r h. f r (omega arith) }

-- candidates that keep their roots and kinds in a later store keep their table
pub nodes-later : (ts ts' : List Term) (l node : List ℕ) → NodeOf ts l node → Every (λ t. (root_in ts' t ≡ root_in ts t) × ((term_in ts' t).kind ≡ (term_in ts t).kind)) l → NodeOf ts' l node
nodes-later ts ts' l node n k = record { size = n.size; entries = λ r h. n.entries r h ∙ sym (same r) }
  where
    same : (r : ℕ) → chosen ts' l r ≡ chosen ts l r
    same r =
        chosen_by ts' l r _ _
        (first-same (constant ts' r) (constant ts r) l (every_map (λ t h. rw (h.0, h.1)) k))
        (first-same (member ts' r) (member ts r) l (every_map (λ t h. rw h.0) k)) ∙ sym (chosen_by ts l r _ _ refl refl)

-- the table's answer is the representative
pub node_is : (s : Store) (l node : List ℕ) (a : ℕ) → NodeOf s.terms l node → Every (λ u. 0 < u) l → root_in s.terms a ≤ term_limit → node_at s.terms node a ≡ representative s l a
unfolding node_at representative
node_is s l node a n k h = go (first_of (constant s.terms r) l) refl (first_of (member s.terms r) l) refl
  where
    r : ℕ
    r = root_in s.terms a

    there : (x : ℕ) → 0 < x → get_or node r 0 ≡ x → (if eqb (get_or node r 0) 0 then a else get_or node r 0) ≡ x
    there x p e = rw (e, ne_eqb x 0 (λ q. omega arith))

    go : (x : Option ℕ) → first_of (constant s.terms r) l ≡ x → (y : Option ℕ) → first_of (member s.terms r) l ≡ y → (if eqb (get_or node r 0) 0 then a else get_or node r 0) ≡ or_first x y a
    go (some u) p y q = there u (first-has (constant s.terms r) l u k p).0 (n.entries r h ∙ chosen_by s.terms l r (some u) y p q)
    go none p (some u) q = there u (first-has (member s.terms r) l u k q).0 (n.entries r h ∙ chosen_by s.terms l r none (some u) p q)
    go none p none q = let e : get_or node r 0 ≡ 0 = n.entries r h ∙ chosen_by s.terms l r none none p q in rw e
