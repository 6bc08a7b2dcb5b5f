-- One term appended that is its own class, with cells and characters at the end of theirs: what the old terms read is what they read
-- before, and the store stays audited.
use mathlib.Core.Path.{◌≡◌, refl, sym, ap, subst, ◌∙◌}
use mathlib.Core.Bool.{Bool, true, false, not, ◌&&◌}
use mathlib.Core.List.{List, [], ◌∷◌, ◌++◌}
use mathlib.Core.Logic.{◌⊎◌, inl, inr, ⊎_elim}
use Prim.Native.Nat.{ℕ, zero, suc, ◌+◌, ◌≤◌, ◌<◌}
use native.Mathlib.Omega.{arith}
use native.Mathlib.Decide.{dec_le}
use lib.ListN.{length, length-append, get_or-append}
use lib.Seq.{get_or-append_seam}
use lib.Dec.{eqb, ltb}
use borrow.Author.Tests.{eqb-true, eq-eqb, ne_eqb}
use Rattle.records.specs.Lists.{all, first_of, is_in, firsts, up_to, Every}
use Rattle.records.specs.Store.{Term, no_term, Cell, Store, term_in, term, count, kind, within, is_term, is_string, is_length, text_in, text, chain_in, chain, parts, climb, class_up, forest_up, root, top, same_class, same_tree, above_by, above_in, or_none, nearest_in, path_in, path, is_edge}
use Rattle.records.specs.Make.{own}
use Rattle.records.specs.Rules.{is_char, is_number, key_rule, is_equatable}
use Rattle.records.specs.Working.Audited
use Rattle.records.specs.Working.Audited.{Part, Ascends, Closed, Label, Unlabelled, Falls, Pairs, Congruent, Recorded, Classed, Congruences, Audited}
use Rattle.records.proofs.Lists.{both_left, both_right, both_true, either, or_left, or_right, within_low, within-high, within-is, decide, clash, every_map, every_both, all_every, every_all, firsts-length}
use Rattle.records.proofs.Climbs.{climb-last, classed_roots, classed_tops, root-self, top-self, root-term, top-term}
use Rattle.records.proofs.Chains
use Rattle.records.proofs.Chains.{chain-extends, chain-none}
use Rattle.records.proofs.Readings.{pairs-terms}
use Rattle.records.proofs.Grown.{term-past, used, present, string-here}

-- WALKS

-- two ways up that agree where one of them stays
module _ (n : ℕ) (f g : ℕ → ℕ) (closed : Closed g n) (agree : (t : ℕ) → within n t ≡ true → f t ≡ g t) where
  pub climb-same : (m t : ℕ) → within n t ≡ true → climb f m t ≡ climb g m t
  unfolding climb
  climb-same zero t h = refl
  climb-same (suc m) t h = rw (agree t h) (climb-same m (g t) (closed.stays t h))

  -- one step more does not matter where the walk has ended
  climb-more : (m t : ℕ) → within n t ≡ true → g (climb g m t) ≡ climb g m t → climb f (suc m) t ≡ climb g m t
  climb-more m t h e = climb-same (suc m) t h ∙ climb-last g m t ∙ e

module _ (ts ts' : List Term) (n : ℕ) (closed : Closed (forest_up ts) n) (agree : (t : ℕ) → within n t ≡ true → forest_up ts' t ≡ forest_up ts t) where
  -- enough steps give the same, however many there are
  pub above_same : (m i j t : ℕ) → within n t ≡ true → forest_up ts (climb (forest_up ts) m t) ≡ climb (forest_up ts) m t → m ≤ i → m ≤ j → above_by (suc i) ts' t ≡ above_by (suc j) ts t
  unfolding above_by climb
  above_same zero i j t h e p q = rw (agree t h, eq-eqb (forest_up ts t) t e)
  above_same (suc m) zero j t h e p q = absurd (omega arith)
  above_same (suc m) (suc i) zero t h e p q = absurd (omega arith)
  above_same (suc m) (suc i) (suc j) t h e p q =
      ap (λ (l : List ℕ). t ∷ l) (step (forest_up ts' t) (forest_up ts t) (agree t h) (above_same m i j (forest_up ts t) (closed.stays t h) e (omega arith) (omega arith)))
    where
      go : (u : ℕ) (b : Bool) → above_by (suc i) ts' u ≡ above_by (suc j) ts u → ◌≡◌ {A = List ℕ} (elim b [ true ↦ [] | false ↦ above_by (suc i) ts' u ]) (elim b [ true ↦ [] | false ↦ above_by (suc j) ts u ])
      go u true l = refl
      go u false l = l

      step : (u v : ℕ) → u ≡ v → above_by (suc i) ts' v ≡ above_by (suc j) ts v → ◌≡◌ {A = List ℕ} (elim (eqb u t) [ true ↦ [] | false ↦ above_by (suc i) ts' u ]) (elim (eqb v t) [ true ↦ [] | false ↦ above_by (suc j) ts v ])
      step u v d l = subst (λ (x : ℕ). ◌≡◌ {A = List ℕ} (elim (eqb x t) [ true ↦ [] | false ↦ above_by (suc i) ts' x ]) (elim (eqb v t) [ true ↦ [] | false ↦ above_by (suc j) ts v ])) (sym d) (go v (eqb v t) l)

-- the path of a pair is a matter of what stands above each
pub along : (x x' y y' : List ℕ) → x ≡ x' → y ≡ y' → (up_to (or_none (first_of (λ z. is_in z y) x)) x ++ up_to (or_none (first_of (λ z. is_in z y) x)) y) ≡ (up_to (or_none (first_of (λ z. is_in z y') x')) x' ++ up_to (or_none (first_of (λ z. is_in z y') x')) y')
along x x' y y' p q = rw (p, q)

-- a chain that is not empty starts within the cells
chain-here : (cs : List Cell) (c : ℕ) → 1 ≤ length (chain_in cs c) → c ≤ length cs
chain-here cs c h =
    decide (within (length cs) c) (within-high (length cs) c) (λ e. let z = ap length (chain-none cs c e) in absurd (omega arith))

-- the arguments of an equation are terms
pub equatable_here : (s : Store) (t u : ℕ) → is_equatable s t u ≡ true → (t ≤ count s) × (u ≤ count s)
unfolding is_equatable
equatable_here s t u e =
    ⊎_elim (λ h. (string-here s t (both_left _ _ h), string-here s u (both_right (is_string s t) _ h)))
    (λ h. (present s t 3 (eqb-true _ _ (both_left _ _ h)), present s u 3 (eqb-true _ _ (both_right (is_length s t) _ h)))) (either _ _ e)

-- THE STORE

-- a term appended that is its own class, over cells ds and characters hs
abbrev pub grow : Store → List Cell → List ℕ → ℕ → ℕ → ℕ → Store
grow s ds hs k a b = record { terms = s.terms ++ (own (suc (count s)) k a b ∷ []); cells = ds; chars = hs; reasons = s.reasons; keys = s.keys; names = s.names; room = s.room }

-- cells and characters added at the end of theirs
pub record More (s : Store) (ds : List Cell) (hs : List ℕ) : Type 0 where
  pub cells : Chains.Extends s.cells ds
  pub ascends : Ascends ds
  pub chars : length s.chars ≤ length hs
  pub texts : (x : Term) → x.first + x.second ≤ length s.chars → text_in hs x ≡ text_in s.chars x
  pub characters : all is_char hs ≡ true

-- what the rules ask of the new term, by its kind, and the room for it
pub record NewVariable (s : Store) (hs : List ℕ) (a b : ℕ) : Type 0 where
  pub fits : a + b ≤ length hs
  pub long : 1 ≤ b
  pub unique : (t : ℕ) → kind s t ≡ 2 → text s t ≡ text_in hs (own (suc (count s)) 2 a b) → ⊥

pub record NewConcat (s : Store) (ds : List Cell) (a b : ℕ) : Type 0 where
  pub two : 2 ≤ length (chain_in ds a)
  pub strings : Every (λ p. is_string s p.0 ≡ true) (chain_in ds a)
  pub plain : Every (λ p. p.1 ≡ 0) (chain_in ds a)
  pub second : b ≡ 0

pub record NewLength (s : Store) (a b : ℕ) : Type 0 where
  pub string : is_string s a ≡ true
  pub second : b ≡ 0

pub record NewRoom (s : Store) (ds : List Cell) (hs : List ℕ) : Type 0 where
  pub terms : count s < s.room.terms
  pub cells : length ds ≤ s.room.cells
  pub chars : length hs ≤ s.room.chars

pub record New (s : Store) (ds : List Cell) (hs : List ℕ) (k a b : ℕ) : Type 0 where
  pub kinds : within 5 k ≡ true
  pub constant : k ≡ 1 → a + b ≤ length hs
  pub variable : k ≡ 2 → NewVariable s hs a b
  pub concat : k ≡ 3 → NewConcat s ds a b
  pub length_of_term : k ≡ 4 → NewLength s a b
  pub equation : k ≡ 5 → is_equatable s a b ≡ true
  pub room : NewRoom s ds hs

module _ (s : Store) (ds : List Cell) (hs : List ℕ) (k a b : ℕ) where
  abbrev n : ℕ
  n = suc (count s)

  abbrev s' : Store
  s' = grow s ds hs k a b

  pub longer : count s' ≡ n
  longer = length-append s.terms _ ∙ omega arith

  pub old-term : (t : ℕ) → t ≤ count s → term s' t ≡ term s t
  unfolding term_in
  old-term t h = get_or-append (no_term ∷ s.terms) _ no_term t (omega arith)

  pub new_term : term s' n ≡ own n k a b
  unfolding term_in
  new_term = get_or-append_seam (no_term ∷ s.terms) _ [] no_term

  -- a number names an old term or 0, the new one, or none
  pub each_number : {P : ℕ → Type 0} → ((t : ℕ) → t ≤ count s → P t) → P n → ((t : ℕ) → n < t → P t) → (t : ℕ) → P t
  each_number {P} f g h t = go (dec_le t (count s)) (dec_le t n)
    where
      go : Dec (t ≤ count s) → Dec (t ≤ n) → P t
      go (yes i) j = f t i
      go (no i) (yes j) = let e : n ≡ t = omega arith in rw e at g
      go (no i) (no j) = h t (omega arith)

  -- for the words that the new term does not use
  each_unused : {A : Type 0} (f : Term → A) → f (own n k a b) ≡ f no_term → (t : ℕ) → f (term s' t) ≡ f (term s t)
  each_unused f e =
      each_number (λ t h. ap f (old-term t h)) (ap f new_term ∙ e ∙ ap f (sym (term-past s n (omega arith))))
      (λ t h. ap f (term-past s' t (let l = longer in omega arith)) ∙ ap f (sym (term-past s t (omega arith))))

  -- a term of the new store is one of the old, or the new one
  each_term_lem : {P : ℕ → Type 0} → ((t : ℕ) → is_term s t ≡ true → P t) → P n → (t : ℕ) → is_term s' t ≡ true → P t
  each_term_lem {P} f g =
      each_number {P = λ t. is_term s' t ≡ true → P t} (λ t h e. f t (within-is (count s) t (within_low _ t e) h)) (λ e. g)
      (λ t h e. let q = within-high _ t e in let l = longer in absurd (omega arith))

  -- and likewise for those of one kind
  pub each-kind : {P : ℕ → Type 0} (j : ℕ) → ((t : ℕ) → kind s t ≡ suc j → P t) → (k ≡ suc j → P n) → (t : ℕ) → kind s' t ≡ suc j → P t
  each-kind {P} j f g =
      each_number {P = λ t. kind s' t ≡ suc j → P t} (λ t h e. f t (sym (ap (λ (x : Term). x.kind) (old-term t h)) ∙ e)) (λ e. g (sym (ap (λ (x : Term). x.kind) new_term) ∙ e))
      (λ t h e. let q = present s' t j e in let l = longer in absurd (omega arith))

  pub at_old : (P : Term → Type 0) (t : ℕ) → t ≤ count s → P (term s t) → P (term s' t)
  at_old P t h = subst P (sym (old-term t h))

  pub at_new : (P : Term → Type 0) → P (own n k a b) → P (term s' n)
  at_new P = subst P (sym new_term)

  old-string : (t : ℕ) → is_string s t ≡ true → is_string s' t ≡ true
  old-string t e = at_old (λ x. within 3 x.kind ≡ true) t (string-here s t e) e

  old-is_term : (t : ℕ) → is_term s t ≡ true → is_term s' t ≡ true
  old-is_term t e = let h = within-high (count s) t e in let l = longer in within-is (count s') t (within_low (count s) t e) (omega arith)

  -- TEXTS AND PARTS

  module _ (recorded : Recorded s) (more : More s ds hs) where
    pub old-constant : (t : ℕ) → kind s t ≡ 1 → text s' t ≡ text s t
    old-constant t e = ap (text_in hs) (old-term t (present s t 0 e)) ∙ more.texts (term s t) (recorded.constants t e)

    pub old-variable : (t : ℕ) → kind s t ≡ 2 → text s' t ≡ text s t
    old-variable t e = ap (text_in hs) (old-term t (present s t 1 e)) ∙ more.texts (term s t) (recorded.variables t e)

    -- a chain that is not empty
    pub old-chain : (c : ℕ) → 1 ≤ length (chain s c) → chain s' c ≡ chain s c
    old-chain c h = chain-extends s.cells ds recorded.nexts more.cells c (chain-here s.cells c h)

    concat-chain : (t : ℕ) → kind s t ≡ 3 → chain s' (term s' t).first ≡ chain s (term s t).first
    concat-chain t e =
        ap (λ (x : Term). chain_in ds x.first) (old-term t (present s t 2 e)) ∙ old-chain (term s t).first (let h = recorded.two_parts t e in omega arith)

    pub old-parts : (t : ℕ) → kind s t ≡ 3 → parts s' t ≡ parts s t
    old-parts t e = ap firsts (concat-chain t e)

  -- CLASSES AND PATHS

  module _ (classed : Classed s) where
    class-agree : (t : ℕ) → is_term s t ≡ true → class_up s'.terms t ≡ class_up s.terms t
    class-agree t e = ap (λ (x : Term). x.class_parent) (old-term t (within-high (count s) t e))

    forest-agree : (t : ℕ) → is_term s t ≡ true → forest_up s'.terms t ≡ forest_up s.terms t
    forest-agree t e = ap (λ (x : Term). x.forest_parent) (old-term t (within-high (count s) t e))

    pub root_of_old : (t : ℕ) → is_term s t ≡ true → root s' t ≡ root s t
    root_of_old t e =
        ap (λ (m : ℕ). climb (class_up s'.terms) m t) longer
        ∙ climb-more (count s) (class_up s'.terms) (class_up s.terms) (classed_roots s classed) class-agree (count s) t e (classed.class_ends t e)

    pub old-top : (t : ℕ) → is_term s t ≡ true → top s' t ≡ top s t
    old-top t e =
        ap (λ (m : ℕ). climb (forest_up s'.terms) m t) longer
        ∙ climb-more (count s) (forest_up s'.terms) (forest_up s.terms) (classed_tops s classed) forest-agree (count s) t e (classed.forest_ends t e)

    pub new-root : root s' n ≡ n
    new-root = root-self s'.terms n (ap (λ (x : Term). x.class_parent) new_term)

    pub new-top : top s' n ≡ n
    new-top = top-self s'.terms n (ap (λ (x : Term). x.forest_parent) new_term)

    pub old-above : (t : ℕ) → is_term s t ≡ true → above_in s'.terms t ≡ above_in s.terms t
    old-above t e =
        above_same s.terms s'.terms (count s) (classed_tops s classed) forest-agree (count s) (count s') (count s) t e (classed.forest_ends t e) (let l = longer in omega arith) (omega arith)

    pub old-path : (t u : ℕ) → is_term s t ≡ true → is_term s u ≡ true → path s' t u ≡ path s t u
    unfolding path_in nearest_in
    old-path t u e f = let p = old-above t e in let q = old-above u f in along (above_in s'.terms t) (above_in s.terms t) (above_in s'.terms u) (above_in s.terms u) p q

    old-classes : (t u : ℕ) → is_term s t ≡ true → is_term s u ≡ true → same_class s' t u ≡ same_class s t u
    old-classes t u e f = let p = root_of_old t e in let q = root_of_old u f in rw (p, q)

    old-trees : (t u : ℕ) → is_term s t ≡ true → is_term s u ≡ true → same_tree s' t u ≡ same_tree s t u
    old-trees t u e f = let p = old-top t e in let q = old-top u f in rw (p, q)

    -- the new term is alone
    root-apart : (t : ℕ) → is_term s t ≡ true → root s' t ≡ root s' n → ⊥
    root-apart t e q =
        let i = within-high (count s) (root s t) (root-term s classed t e) in
        let j : root s t ≡ n = sym (root_of_old t e) ∙ q ∙ new-root in
        omega arith

    top_apart : (t : ℕ) → is_term s t ≡ true → top s' t ≡ top s' n → ⊥
    top_apart t e q =
        let i = within-high (count s) (top s t) (top-term s classed t e) in
        let j : top s t ≡ n = sym (old-top t e) ∙ q ∙ new-top in
        omega arith

  -- THE RULES

  part-kept : (t : ℕ) (p : ℕ × ℕ) → Part s t p → Part s' t p
  part-kept t p q = record { string = old-string p.0 q.string; lower = q.lower; plain = q.plain }

  old-length : (t : ℕ) → is_length s t ≡ true → is_length s' t ≡ true
  old-length t e = at_old (λ x. eqb x.kind 4 ≡ true) t (present s t 3 (eqb-true _ _ e)) e

  old_equatable : (t u : ℕ) → is_equatable s t u ≡ true → is_equatable s' t u ≡ true
  unfolding is_equatable
  old_equatable t u e =
      ⊎_elim (λ h. or_left _ _ (both_true _ _ (old-string t (both_left _ _ h)) (old-string u (both_right (is_string s t) _ h))))
      (λ h. or_right (is_string s' t && is_string s' u) _ (both_true _ _ (old-length t (both_left _ _ h)) (old-length u (both_right (is_length s t) _ h)))) (either _ _ e)

  old_key : (p : ℕ × ℕ) → key_rule s p ≡ true → key_rule s' p ≡ true
  unfolding key_rule
  old_key p e =
      let q = both_left (ltb p.0 p.1 && is_string s p.0) (is_string s p.1) e in
      both_true (ltb p.0 p.1 && is_string s' p.0) _ (both_true (ltb p.0 p.1) _ (both_left _ (is_string s p.0) q) (old-string p.0 (both_right (ltb p.0 p.1) _ q)))
      (old-string p.1 (both_right (ltb p.0 p.1 && is_string s p.0) _ e))

  module _ (recorded : Recorded s) (more : More s ds hs) (new : New s ds hs k a b) where
    new-text : k ≡ 2 → text s' n ≡ text_in hs (own n 2 a b)
    new-text i = ap (text_in hs) new_term ∙ ap (λ (j : ℕ). text_in hs (own n j a b)) i

    kept-unique : (t u : ℕ) → kind s' t ≡ 2 → kind s' u ≡ 2 → text s' t ≡ text s' u → t ≡ u
    kept-unique t u e f =
        each-kind {P = λ t. (u : ℕ) → kind s' u ≡ 2 → text s' t ≡ text s' u → t ≡ u} 1
        (λ t e. each-kind {P = λ u. text s' t ≡ text s' u → t ≡ u} 1
        (λ u f q. recorded.unique_names t u e f (sym (old-variable recorded more t e) ∙ q ∙ old-variable recorded more u f))
        (λ i q. absurd ((new.variable i).unique t e (sym (old-variable recorded more t e) ∙ q ∙ new-text i))))
        (λ i. each-kind {P = λ u. text s' n ≡ text s' u → n ≡ u} 1
        (λ u f q. absurd ((new.variable i).unique u f (sym (old-variable recorded more u f) ∙ sym q ∙ new-text i))) (λ j q. refl)) t e u f

    new-parts : k ≡ 3 → Every (Part s' n) (chain_in ds a)
    new-parts i =
        every_map (λ p q. record { string = old-string p.0 q.0; lower = (let h = string-here s p.0 q.0 in omega arith); plain = q.1 })
        (every_both (new.concat i).strings (new.concat i).plain)

    pub kept-recorded : Recorded s'
    kept-recorded = record {
      kinds = each_term_lem (λ t e. at_old (λ x. within 5 x.kind ≡ true) t (within-high _ t e) (recorded.kinds t e)) (at_new (λ x. within 5 x.kind ≡ true) new.kinds);
      constants = each-kind 0 (λ t e. at_old (λ x. x.first + x.second ≤ length hs) t (present s t 0 e) (let p = recorded.constants t e in let c = more.chars in omega arith))
          (λ i. at_new (λ x. x.first + x.second ≤ length hs) (new.constant i));
      variables = each-kind 1 (λ t e. at_old (λ x. x.first + x.second ≤ length hs) t (present s t 1 e) (let p = recorded.variables t e in let c = more.chars in omega arith))
          (λ i. at_new (λ x. x.first + x.second ≤ length hs) (new.variable i).fits);
      long_names = each-kind 1 (λ t e. at_old (λ x. 1 ≤ x.second) t (present s t 1 e) (recorded.long_names t e)) (λ i. at_new (λ x. 1 ≤ x.second) (new.variable i).long);
      unique_names = kept-unique;
      two_parts = each-kind 2 (λ t e. subst (λ (l : List (ℕ × ℕ)). 2 ≤ length l) (sym (concat-chain recorded more t e)) (recorded.two_parts t e))
          (λ i. at_new (λ x. 2 ≤ length (chain_in ds x.first)) (new.concat i).two);
      parts_good = each-kind 2 (λ t e. subst (λ (l : List (ℕ × ℕ)). Every (Part s' t) l) (sym (concat-chain recorded more t e)) (every_map (part-kept t) (recorded.parts_good t e)))
          (λ i. at_new (λ x. Every (Part s' n) (chain_in ds x.first)) (new-parts i));
      concat_second = each-kind 2 (λ t e. at_old (λ x. x.second ≡ 0) t (present s t 2 e) (recorded.concat_second t e)) (λ i. at_new (λ x. x.second ≡ 0) (new.concat i).second);
      length_first = each-kind 3 (λ t e. at_old (λ x. is_string s' x.first ≡ true) t (present s t 3 e) (old-string _ (recorded.length_first t e)))
          (λ i. at_new (λ x. is_string s' x.first ≡ true) (old-string a (new.length_of_term i).string));
      length_lower = each-kind 3 (λ t e. at_old (λ x. x.first < t) t (present s t 3 e) (recorded.length_lower t e))
          (λ i. at_new (λ x. x.first < n) (let h = string-here s a (new.length_of_term i).string in omega arith));
      length_second = each-kind 3 (λ t e. at_old (λ x. x.second ≡ 0) t (present s t 3 e) (recorded.length_second t e)) (λ i. at_new (λ x. x.second ≡ 0) (new.length_of_term i).second);
      equation_sides = each-kind 4 (λ t e. at_old (λ x. is_equatable s' x.first x.second ≡ true) t (present s t 4 e) (old_equatable _ _ (recorded.equation_sides t e)))
          (λ i. at_new (λ x. is_equatable s' x.first x.second ≡ true) (old_equatable a b (new.equation i)));
      equation_first = each-kind 4 (λ t e. at_old (λ x. x.first < t) t (present s t 4 e) (recorded.equation_first t e))
          (λ i. at_new (λ x. x.first < n) (let h = (equatable_here s a b (new.equation i)).0 in omega arith));
      equation_second = each-kind 4 (λ t e. at_old (λ x. x.second < t) t (present s t 4 e) (recorded.equation_second t e))
          (λ i. at_new (λ x. x.second < n) (let h = (equatable_here s a b (new.equation i)).1 in omega arith));
      nexts = more.ascends;
      characters = more.characters;
      reasons = recorded.reasons;
      keys = every_all (every_map old_key (all_every (key_rule s) s.keys recorded.keys));
    }

  -- four cases: two old terms, one and the new one, the new one twice
  each_two : {P : ℕ → ℕ → Type 0} → ((t u : ℕ) → is_term s t ≡ true → is_term s u ≡ true → P t u) → ((t : ℕ) → is_term s t ≡ true → P t n)
      → ((t : ℕ) → is_term s t ≡ true → P n t) → P n n → (t u : ℕ) → is_term s' t ≡ true → is_term s' u ≡ true → P t u
  each_two {P} f g h i t u e =
      each_term_lem {P = λ t. (u : ℕ) → is_term s' u ≡ true → P t u} (λ t e. each_term_lem {P = P t} (λ u. f t u e) (g t e)) (each_term_lem {P = P n} h i) t e u

  new-is_term : is_term s' n ≡ true
  new-is_term = let l = longer in within-is (count s') n (omega arith) (omega arith)

  pub old-edge : (t : ℕ) → is_term s t ≡ true → is_edge s' t ≡ is_edge s t
  old-edge t e = ap (λ (x : Term). not (eqb x.forest_parent t)) (old-term t (within-high _ t e))

  pub new-edge : is_edge s' n ≡ false
  new-edge = ap (λ (x : Term). not (eqb x.forest_parent n)) new_term ∙ ap not (eq-eqb n n refl)

  label_kept : (t : ℕ) → t ≤ count s → Label s t → Label s' t
  label_kept t h (Audited.Label.asserted p q) = Audited.Label.asserted (at_old (λ x. x.label_kind ≡ 1) t h p) (at_old (λ x. is_number x.label_value ≡ true) t h q)
  label_kept t h (Audited.Label.interface p q) = Audited.Label.interface (at_old (λ x. x.label_kind ≡ 2) t h p) (at_old (λ x. is_number x.label_value ≡ true) t h q)
  label_kept t h (Audited.Label.congruence p) = Audited.Label.congruence (at_old (λ x. x.label_kind ≡ 3) t h p)
  label_kept t h (Audited.Label.definitional p q) = Audited.Label.definitional (at_old (λ x. x.label_kind ≡ 4) t h p) (at_old (λ x. x.label_value ≡ 0) t h q)

  unlabelled-kept : (t : ℕ) → t ≤ count s → Unlabelled s t → Unlabelled s' t
  unlabelled-kept t h u = record {
    kind_is = at_old (λ x. x.label_kind ≡ 0) t h u.kind_is;
    value_is = at_old (λ x. x.label_value ≡ 0) t h u.value_is;
    stamp_is = at_old (λ x. x.stamp ≡ 0) t h u.stamp_is;
  }

  module _ (classed : Classed s) where
    pub kept-classed : Classed s'
    kept-classed = record {
      class_parents = each_term_lem (λ t e. at_old (λ x. is_term s' x.class_parent ≡ true) t (within-high _ t e) (old-is_term _ (classed.class_parents t e)))
          (at_new (λ x. is_term s' x.class_parent ≡ true) new-is_term);
      forest_parents = each_term_lem (λ t e. at_old (λ x. is_term s' x.forest_parent ≡ true) t (within-high _ t e) (old-is_term _ (classed.forest_parents t e)))
          (at_new (λ x. is_term s' x.forest_parent ≡ true) new-is_term);
      class_ends = each_term_lem (λ t e. subst (λ (r : ℕ). (term s' r).class_parent ≡ r) (sym (root_of_old classed t e)) (class-agree classed _ (root-term s classed t e) ∙ classed.class_ends t e))
          (subst (λ (r : ℕ). (term s' r).class_parent ≡ r) (sym (new-root classed)) (ap (λ (x : Term). x.class_parent) new_term));
      forest_ends = each_term_lem (λ t e. subst (λ (r : ℕ). (term s' r).forest_parent ≡ r) (sym (old-top classed t e)) (forest-agree classed _ (top-term s classed t e) ∙ classed.forest_ends t e))
          (subst (λ (r : ℕ). (term s' r).forest_parent ≡ r) (sym (new-top classed)) (ap (λ (x : Term). x.forest_parent) new_term));
      alike = each_two {P = λ t u. same_class s' t u ≡ same_tree s' t u} (λ t u e f. old-classes classed t u e f ∙ classed.alike t u e f ∙ sym (old-trees classed t u e f))
          (λ t e. ne_eqb _ _ (root-apart classed t e) ∙ sym (ne_eqb _ _ (top_apart classed t e)))
          (λ t e. ne_eqb _ _ (λ q. root-apart classed t e (sym q)) ∙ sym (ne_eqb _ _ (λ q. top_apart classed t e (sym q))))
          (eq-eqb (root s' n) (root s' n) refl ∙ sym (eq-eqb (top s' n) (top s' n) refl));
      alone = each_two {P = λ t u. is_string s' t ≡ false → root s' t ≡ root s' u → t ≡ u}
          (λ t u e f q r. classed.alone t u e f (sym (ap (λ (x : Term). within 3 x.kind) (old-term t (within-high _ t e))) ∙ q) (sym (root_of_old classed t e) ∙ r ∙ root_of_old classed u f))
          (λ t e q r. absurd (root-apart classed t e r))
          (λ t e q r. absurd (root-apart classed t e (sym r)))
          (λ q r. refl);
      labels = each_term_lem (λ t e q. label_kept t (within-high _ t e) (classed.labels t e (sym (old-edge t e) ∙ q))) (λ q. clash q new-edge);
      roots = each_term_lem (λ t e q. unlabelled-kept t (within-high _ t e) (classed.roots t e (sym (old-edge t e) ∙ q)))
          (λ q. record { kind_is = at_new (λ x. x.label_kind ≡ 0) refl; value_is = at_new (λ x. x.label_value ≡ 0) refl; stamp_is = at_new (λ x. x.stamp ≡ 0) refl });
    }

  module _ (recorded : Recorded s) (more : More s ds hs) (classed : Classed s) (congruences : Congruences s) where
    pairs-kept : (l : List (ℕ × ℕ)) (t u : ℕ) → kind s t ≡ 3 → kind s u ≡ 3 → Pairs s l t u → Pairs s' l t u
    pairs-kept l t u e f p = record { one = p.one ∙ sym (old-parts recorded more t e); other = p.other ∙ sym (old-parts recorded more u f) }

    pairs-some : (l : List (ℕ × ℕ)) (t u : ℕ) → kind s t ≡ 3 → Pairs s l t u → 1 ≤ length l
    pairs-some l t u e p =
        let h = recorded.two_parts t e in
        let i = firsts-length l in
        let j = firsts-length (chain s (term s t).first) in
        let q = ap length p.one in omega arith

    falls-kept : (m : ℕ) (p : ℕ × ℕ) → (is_term s p.0 ≡ true) × (is_term s p.1 ≡ true) → Falls s m p → Falls s' m p
    falls-kept m p h f = record {
      tree = old-top classed p.0 h.0 ∙ f.tree ∙ sym (old-top classed p.1 h.1);
      stamps = subst (λ (l : List ℕ). Every (λ e. (term s' e).stamp < m) l) (sym (old-path classed p.0 p.1 h.0 h.1))
          (every_map (λ e i. subst (λ (x : ℕ). x < m) (sym (each_unused (λ x. x.stamp) refl e)) i) f.stamps);
    }

    congruent_kept : (t : ℕ) → t ≤ count s → Congruent s t → Congruent s' t
    congruent_kept t h c = record {
      child = old-kind t 2 c.child;
      parent = at_old (λ x. kind s' x.forest_parent ≡ 3) t h (old-kind u 2 c.parent);
      pairs = at_old (λ x. Pairs s' (chain s' x.label_value) t x.forest_parent ⊎ Pairs s' (chain s' x.label_value) x.forest_parent t) t h
          (subst (λ (m : List (ℕ × ℕ)). Pairs s' m t u ⊎ Pairs s' m u t) (sym same)
          (⊎_elim (λ p. inl (pairs-kept l t u c.child c.parent p)) (λ p. inr (pairs-kept l u t c.parent c.child p)) c.pairs));
      falls = at_old (λ x. Every (Falls s' x.stamp) (chain s' x.label_value)) t h
          (subst (λ (m : List (ℕ × ℕ)). Every (Falls s' (term s t).stamp) m) (sym same) (every_map (λ p q. falls-kept (term s t).stamp p q.0 q.1) (every_both (pairs-terms s recorded t c) c.falls)));
    }
      where
        old-kind : (t j : ℕ) → kind s t ≡ suc j → kind s' t ≡ suc j
        old-kind t j e = at_old (λ x. x.kind ≡ suc j) t (present s t j e) e

        u : ℕ
        u = (term s t).forest_parent

        l : List (ℕ × ℕ)
        l = chain s (term s t).label_value

        same : chain s' (term s t).label_value ≡ chain s (term s t).label_value
        same = old-chain recorded more (term s t).label_value (⊎_elim (pairs-some l t u c.child) (pairs-some l u t c.parent) c.pairs)

    pub kept-congruences : Congruences s'
    kept-congruences t q r =
        let e : (term s t).label_kind ≡ 3 = sym (each_unused (λ x. x.label_kind) refl t) ∙ r in
        let h = used (λ x. x.label_kind) refl s t 2 e in
        congruent_kept t (within-high (count s) t h) (congruences t (sym (old-edge t h) ∙ q) e)

  -- the store stays audited
  pub kept-audited : Audited s → More s ds hs → New s ds hs k a b → Audited s'
  kept-audited audited more new = record {
    roomy = record {
      terms = (let l = longer in let h = new.room.terms in omega arith);
      cells = new.room.cells;
      chars = new.room.chars;
      reasons = audited.roomy.reasons;
      keys = audited.roomy.keys;
    };
    recorded = kept-recorded audited.recorded more new;
    classed = kept-classed audited.classed;
    congruences = kept-congruences audited.recorded more audited.classed audited.congruences;
  }
