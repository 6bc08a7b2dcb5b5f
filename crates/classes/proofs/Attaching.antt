-- One class attached to another: a tree re-rooted at a and put under b, and its class root under a term of b's class. The store stays audited,
-- each other edge keeps its ends, label and stamp, and the two classes are one.
use mathlib.Core.Path.{◌≡◌, refl, sym, ap, subst, ◌∙◌}
use mathlib.Core.Bool.{true, false, not}
use mathlib.Core.List.{List}
use mathlib.Core.Logic.{◌⊎◌, inl, inr, ⊎_elim}
use Prim.Native.Nat.{ℕ, ◌<◌}
use native.Mathlib.Decide.{ℕ_discrete}
use native.Mathlib.Omega.{arith}
use lib.ListN.{length}
use lib.Dec.{eqb}
use borrow.Author.Tests.{eqb-true, eq-eqb, ne_eqb}
use Rattle.records.specs.Lists.{firsts, Every}
use Rattle.records.specs.Store.{Term, Store, term_in, term, count, kind, within, is_term, is_string, chain, parts, climb, class_up, forest_up, root_in, top_in, root, top, above_in, nearest_in, path_in, is_edge}
use Rattle.records.specs.Rules.{is_number, is_reason_kind}
use Rattle.records.specs.Make.{with_terms}
use Rattle.records.specs.Working.Audited.{Closed, Label, asserted, interface, congruence, definitional, Unlabelled, Falls, Pairs, Congruent, Classed, Congruences, Audited}
use Rattle.records.proofs.Lists.{decide, clash, either, same_test, every_map, every_both}
use Rattle.records.proofs.Climbs.{top-self, classed_roots, classed_tops, root-root, root-term}
use Rattle.records.proofs.Grown.{used, string-term}
use Rattle.records.proofs.Readings.{pairs-terms}
use Rattle.records.proofs.Append.{above_same, along}
use Rattle.classes.proofs.MovedClimbs.{Moved, moved-closed, moved_ends}
use Rattle.classes.specs.Joins.{Edge, edge, no_edge, edge_of, turned, bearing, put_edge, put_class, reroot_in, Stands, here, over}
use Rattle.classes.specs.Working.Carries.{Forest}
use Rattle.classes.proofs.Tables.{edge-long, edge_here, edge-away, edge-words, class-long, class-here, class-away, class-words}
use Rattle.classes.proofs.Turning.{Rerooted}
use Rattle.classes.proofs.Undoing.{classed-forest, rerooted, class_up_lem, class-top, class-forest}
use Rattle.classes.proofs.Alike.{Like, kind-like, first-like, string-like, recorded-like, roomy-like}
use Rattle.classes.proofs.Rounds.{Came, as_was, round, Same, reroot_same}
use Rattle.classes.proofs.Under.{under-path}
use Rattle.classes.proofs.Dividing.{Joint, were, across, back, joint_at, joint_map, joint_moved, moved_joint}

-- what is asked: two string terms of different classes, a reason, and a term of the second one's class
pub record Attachable (s : Store) (a b place k v : ℕ) : Type 0 where
  pub one : is_string s a ≡ true
  pub other : is_string s b ≡ true
  pub apart : root s a ≡ root s b → ⊥
  pub kinds : is_reason_kind k ≡ true
  pub number : is_number v ≡ true
  pub here : is_term s place ≡ true
  pub beside : root s place ≡ root s b

-- a's class root put under `place`, a's tree re-rooted at a, and the edge put on a
abbrev pub attach_in : List Term → ℕ → ℕ → Edge → List Term
attach_in ts a place e = put_edge (reroot_in (put_class ts (root_in ts a) place) a) a e

module _ (s : Store) (audited : Audited s) (a b place k v stamp : ℕ) (j : Attachable s a b place k v) where
  abbrev c : Classed s
  c = audited.classed

  abbrev ts : List Term
  ts = s.terms

  abbrev put : List Term
  put = put_class ts (root s a) place

  abbrev us : List Term
  us = reroot_in put a

  abbrev js : List Term
  js = attach_in ts a place (edge b k v stamp)

  abbrev s' : Store
  s' = with_terms s js

  wa : is_term s a ≡ true
  wa = string-term s a j.one

  wb : is_term s b ≡ true
  wb = string-term s b j.other

  wr : is_term s (root s a) ≡ true
  wr = root-term s c a wa

  put-forest : Forest put
  put-forest = class-forest ts (root s a) place wr (classed-forest s c)

  in_put : (t : ℕ) → is_term s t ≡ true → within (length put) t ≡ true
  in_put t w = ap (λ (n : ℕ). within n t) (class-long ts (root s a) place) ∙ w

  same : Same put us
  same = reroot_same put put-forest a (in_put a wa)

  rooted : Rerooted put us a (above_in put a)
  rooted = rerooted put put-forest a (in_put a wa)

  us-long : length us ≡ count s
  us-long = same.long ∙ class-long ts (root s a) place

  js-us : length js ≡ length us
  js-us = edge-long us a (edge b k v stamp)

  long : length js ≡ count s
  long = js-us ∙ us-long

  in_us : (t : ℕ) → is_term s t ≡ true → within (length us) t ≡ true
  in_us t w = ap (λ (n : ℕ). within n t) us-long ∙ w

  of-us : (t : ℕ) → within (length us) t ≡ true → is_term s t ≡ true
  of-us t w = sym (ap (λ (n : ℕ). within n t) us-long) ∙ w

  term-same : (t : ℕ) → is_term s' t ≡ is_term s t
  term-same t = ap (λ (n : ℕ). within n t) long

  was-term : (t : ℕ) → is_term s' t ≡ true → is_term s t ≡ true
  was-term t w = sym (term-same t) ∙ w

  at_a : term s' a ≡ bearing (term_in us a) (edge b k v stamp)
  at_a = edge_here us a _ (in_us a wa)

  away : (t : ℕ) → (t ≡ a → ⊥) → term s' t ≡ term_in us t
  away = edge-away us a _ (in_us a wa)

  -- WORDS THAT STAY

  -- all but the edge's
  link-words : (f : Term → ℕ) → ((y : Term) (e : Edge) → f (bearing y e) ≡ f y) → (t : ℕ) → f (term s' t) ≡ f (term_in put t)
  link-words f h t = edge-words us a _ (in_us a wa) f (λ y. h y _) t ∙ same.words f h t

  -- and all but the class parent
  pub like : Like ts js
  like = record { long = long; words = λ f p t. link-words f p.edges t ∙ class-words ts (root s a) place wr f (λ y. p.classes y place) t }

  kind-same : (t : ℕ) → kind s' t ≡ kind s t
  kind-same = kind-like s js like

  -- CLASSES

  class-at : class_up js (root s a) ≡ place
  class-at = link-words (λ x. x.class_parent) (λ y e. refl) (root s a) ∙ ap (λ (x : Term). x.class_parent) (class-here ts _ place wr)

  class-other : (t : ℕ) → (t ≡ root s a → ⊥) → class_up js t ≡ class_up ts t
  class-other t d = link-words (λ x. x.class_parent) (λ y e. refl) t ∙ ap (λ (x : Term). x.class_parent) (class-away ts _ place wr t d)

  class-moved : Moved (class_up ts) (class_up js) (count s) (root s a) place
  class-moved = record {
    closed = classed_roots s c;
    ends = c.class_ends;
    self = c.class_ends a wa;
    at = class-at;
    away = class-other;
    here = j.here;
    apart = λ e. j.apart (sym e ∙ j.beside);
  }

  root-counted : (t : ℕ) → root s' t ≡ climb (class_up js) (count s) t
  root-counted t = ap (λ (n : ℕ). climb (class_up js) n t) long

  -- the classes are the ones that the join makes
  module _ (t u : ℕ) (wt : is_term s t ≡ true) (wu : is_term s u ≡ true) where
    pub division : root s' t ≡ root s' u → Joint (root s) a b t u
    division e = joint_at (root-root s c a wa) j.beside (moved_joint class-moved t u wt wu (sym (root-counted t) ∙ e ∙ root-counted u))

    pub divided : Joint (root s) a b t u → root s' t ≡ root s' u
    divided h = root-counted t ∙ joint_moved class-moved t u wt wu (joint_at (sym (root-root s c a wa)) (sym j.beside) h) ∙ sym (root-counted u)

  -- TREES

  put-top : (t : ℕ) → is_term s t ≡ true → top_in put t ≡ top s t
  put-top = class-top ts (root s a) place wr (classed_tops s c)

  self-a : forest_up us a ≡ a
  self-a = ap (λ (y : Edge). y.parent) rooted.here

  us-together : (t u : ℕ) → is_term s t ≡ true → is_term s u ≡ true → top s t ≡ top s u → top_in us t ≡ top_in us u
  us-together t u wt wu e = same.together t u (in_put t wt) (in_put u wu) (put-top t wt ∙ e ∙ sym (put-top u wu))

  us-apart : (t u : ℕ) → is_term s t ≡ true → is_term s u ≡ true → top_in us t ≡ top_in us u → top s t ≡ top s u
  us-apart t u wt wu e = sym (put-top t wt) ∙ same.apart t u (in_put t wt) (in_put u wu) e ∙ put-top u wu

  to-root : (t u : ℕ) → is_term s t ≡ true → is_term s u ≡ true → top s t ≡ top s u → root s t ≡ root s u
  to-root t u wt wu e = eqb-true _ _ (c.alike t u wt wu ∙ eq-eqb _ _ e)

  to-top : (t u : ℕ) → is_term s t ≡ true → is_term s u ≡ true → root s t ≡ root s u → top s t ≡ top s u
  to-top t u wt wu e = eqb-true _ _ (sym (c.alike t u wt wu) ∙ eq-eqb _ _ e)

  up-a : forest_up js a ≡ b
  up-a = ap (λ (y : Term). y.forest_parent) at_a

  up-other : (t : ℕ) → (t ≡ a → ⊥) → forest_up js t ≡ forest_up us t
  up-other t d = ap (λ (y : Term). y.forest_parent) (away t d)

  forest-moved : Moved (forest_up us) (forest_up js) (length us) a b
  forest-moved = record {
    closed = same.forest.closed;
    ends = same.forest.ended;
    self = self-a;
    at = up-a;
    away = up-other;
    here = in_us b wb;
    apart = λ e. j.apart (to-root a b wa wb (us-apart a b wa wb (top-self us a self-a ∙ sym e)));
  }

  top-counted : (t : ℕ) → top s' t ≡ climb (forest_up js) (length us) t
  top-counted t = ap (λ (n : ℕ). climb (forest_up js) n t) js-us

  module _ (t u : ℕ) (wt : is_term s t ≡ true) (wu : is_term s u ≡ true) where
    trees : top s' t ≡ top s' u → Joint (root s) a b t u
    trees e = joint_map (count s) (λ x y wx wy q. to-root x y wx wy (us-apart x y wx wy q)) wa wb wt wu
        (moved_joint forest-moved t u (in_us t wt) (in_us u wu) (sym (top-counted t) ∙ e ∙ top-counted u))

    treed : Joint (root s) a b t u → top s' t ≡ top s' u
    treed h = top-counted t
        ∙ joint_moved forest-moved t u (in_us t wt) (in_us u wu) (joint_map (count s) (λ x y wx wy q. us-together x y wx wy (to-top x y wx wy q)) wa wb wt wu h)
        ∙ sym (top-counted u)

    attached_alike : eqb (root s' t) (root s' u) ≡ eqb (top s' t) (top s' u)
    attached_alike = same_test _ _ (λ e. eq-eqb _ _ (treed (division t u wt wu (eqb-true _ _ e)))) (λ e. eq-eqb _ _ (divided t u wt wu (trees (eqb-true _ _ e))))

    attached_alone : is_string s t ≡ false → root s' t ≡ root s' u → t ≡ u
    attached_alone f e = go (division t u wt wu e)
      where
        not-string : (x : ℕ) → is_term s x ≡ true → is_string s x ≡ true → root s t ≡ root s x → ⊥
        not-string x w g q = let z = c.alone t x wt w f q in clash g (ap (is_string s) (sym z) ∙ f)

        go : Joint (root s) a b t u → t ≡ u
        go (were p) = c.alone t u wt wu f p
        go (across p q) = absurd (not-string a wa j.one p)
        go (back p q) = absurd (not-string b wb j.other p)

  -- LABELS

  put_edge_lem : (t : ℕ) → edge_of (term_in put t) ≡ edge_of (term s t)
  put_edge_lem = class-words ts (root s a) place wr edge_of (λ y. refl)

  put_up : (t : ℕ) → forest_up put t ≡ forest_up ts t
  put_up = class_up_lem ts (root s a) place wr

  -- where an edge other than the new one stood, and which way round
  data From (t : ℕ) : Type 0 where
    stays : is_edge s t ≡ true → edge_of (term s' t) ≡ edge_of (term s t) → From t
    turns : (x : ℕ) → is_term s x ≡ true → is_edge s x ≡ true → forest_up ts x ≡ t → edge_of (term s' t) ≡ turned x (term s x) → From t

  edge_not : (t : ℕ) → is_edge s' t ≡ true → forest_up js t ≡ t → ⊥
  edge_not t e q = clash e (ap not (eq-eqb _ _ q))

  from : (t : ℕ) → is_term s t ≡ true → is_edge s' t ≡ true → (t ≡ a → ⊥) → From t
  from t w e d = go (same.edges t (in_put t w) (λ q. edge_not t e (up-other t d ∙ q)))
    where
      go : Came put us t → From t
      go (as_was q) =
          let i : edge_of (term s' t) ≡ edge_of (term s t) = ap edge_of (away t d) ∙ q ∙ put_edge_lem t in
          stays (ap not (ne_eqb _ _ (λ z. edge_not t e (ap (λ (y : Edge). y.parent) i ∙ z)))) i
      go (round x wx n p q) =
          turns x (sym (ap (λ (m : ℕ). within m x) (class-long ts (root s a) place)) ∙ wx) (ap not (ne_eqb _ _ (λ z. n (put_up x ∙ z)))) (sym (put_up x) ∙ p)
          (ap edge_of (away t d) ∙ q ∙ ap (λ (y : Edge). edge x y.label_kind y.label_value y.stamp) (put_edge_lem x))

  -- each edge of s stands in s' too
  to : (t : ℕ) → (forest_up ts t ≡ t → ⊥) → Stands put us t → Stands ts js t
  to t n (here e) = here (ap edge_of (away t (λ z. n (sym (put_up t) ∙ sym (ap (λ (y : Edge). y.parent) e) ∙ ap (forest_up us) z ∙ self-a ∙ sym z))) ∙ e ∙ put_edge_lem t)
  to t n (over e) =
      let i : forest_up us (forest_up put t) ≡ t = ap (λ (y : Edge). y.parent) e in
      let d : forest_up put t ≡ a → ⊥ = λ z. n (sym (put_up t) ∙ z ∙ sym self-a ∙ ap (forest_up us) (sym z) ∙ i) in
      over (ap (λ (y : ℕ). edge_of (term_in js y)) (sym (put_up t)) ∙ ap edge_of (away (forest_up put t) d) ∙ e ∙ ap (λ (y : Edge). edge t y.label_kind y.label_value y.stamp) (put_edge_lem t))

  pub edge_new : edge_of (term s' a) ≡ edge b k v stamp
  edge_new = ap edge_of at_a

  pub edges_kept : (t : ℕ) → is_term s t ≡ true → (forest_up ts t ≡ t → ⊥) → Stands ts js t
  edges_kept t w n = to t n (same.stands t (in_put t w) (λ z. n (sym (put_up t) ∙ z)))

  pub edges_only : (t : ℕ) → is_term s t ≡ true → (forest_up js t ≡ t → ⊥) → (t ≡ a → ⊥) → Stands js ts t
  edges_only t w n d = go (from t w (ap not (ne_eqb _ _ n)) d)
    where
      go : From t → Stands js ts t
      go (stays h i) = here (sym i)
      go (turns x w h p i) =
          over (ap (λ (y : ℕ). edge_of (term s y)) (ap (λ (y : Edge). y.parent) i) ∙ ap (λ (y : ℕ). turned y (term s x)) p ∙ ap (λ (y : Edge). edge t y.label_kind y.label_value y.stamp) (sym i))

  label_as : (t x : ℕ) → (term s' t).label_kind ≡ (term s x).label_kind → (term s' t).label_value ≡ (term s x).label_value → Label s x → Label s' t
  label_as t x p q (asserted e n) = asserted (p ∙ e) (ap is_number q ∙ n)
  label_as t x p q (interface e n) = interface (p ∙ e) (ap is_number q ∙ n)
  label_as t x p q (congruence e) = congruence (p ∙ e)
  label_as t x p q (definitional e n) = definitional (p ∙ e) (q ∙ n)

  new_label : Label s' a
  new_label =
      let n : is_number (term s' a).label_value ≡ true = ap (λ (y : Term). is_number y.label_value) at_a ∙ j.number in
      ⊎_elim (λ e. asserted (ap (λ (y : Term). y.label_kind) at_a ∙ eqb-true k 1 e) n) (λ e. interface (ap (λ (y : Term). y.label_kind) at_a ∙ eqb-true k 2 e) n)
      (either (eqb k 1) (eqb k 2) j.kinds)

  attached_label : (t : ℕ) → is_term s t ≡ true → is_edge s' t ≡ true → Label s' t
  attached_label t w e = go (ℕ_discrete t a)
    where
      of : From t → Label s' t
      of (stays h i) = label_as t t (ap (λ (y : Edge). y.label_kind) i) (ap (λ (y : Edge). y.label_value) i) (c.labels t w h)
      of (turns x wx h p i) = label_as t x (ap (λ (y : Edge). y.label_kind) i) (ap (λ (y : Edge). y.label_value) i) (c.labels x wx h)

      go : Dec (t ≡ a) → Label s' t
      go (yes z) = subst (Label s') (sym z) new_label
      go (no d) = of (from t w e d)

  js_forest : Forest js
  js_forest = record {
    closed = subst (Closed (forest_up js)) (sym js-us) (moved-closed forest-moved);
    ended = λ t w. subst (λ (r : ℕ). forest_up js r ≡ r) (sym (top-counted t)) (moved_ends forest-moved t (sym (ap (λ (n : ℕ). within n t) js-us) ∙ w));
    unlabelled = λ t w e. go t (sym (ap (λ (n : ℕ). within n t) js-us) ∙ w) e (ℕ_discrete t a);
  }
    where
      go : (t : ℕ) → within (length us) t ≡ true → forest_up js t ≡ t → Dec (t ≡ a) → edge_of (term s' t) ≡ no_edge t
      go t w e (yes z) = absurd (j.apart (ap (root s) (sym z ∙ sym e ∙ ap (forest_up js) z ∙ up-a)))
      go t w e (no d) = ap edge_of (away t d) ∙ same.forest.unlabelled t w (sym (up-other t d) ∙ e)

  attached_root : (t : ℕ) → is_term s t ≡ true → is_edge s' t ≡ false → Unlabelled s' t
  attached_root t w e =
      let self : forest_up js t ≡ t = decide (eqb (forest_up js t) t) (λ q. eqb-true _ _ q) (λ q. clash (ap not q) e) in
      let i = js_forest.unlabelled t (term-same t ∙ w) self in
      record { kind_is = ap (λ (y : Edge). y.label_kind) i; value_is = ap (λ (y : Edge). y.label_value) i; stamp_is = ap (λ (y : Edge). y.stamp) i }

  attached_classed : Classed s'
  attached_classed = record {
    class_parents = λ t w. term-same (class_up js t) ∙ (moved-closed class-moved).stays t (was-term t w);
    forest_parents = λ t w. term-same (forest_up js t) ∙ of-us (forest_up js t) ((moved-closed forest-moved).stays t (in_us t (was-term t w)));
    class_ends = λ t w. subst (λ (r : ℕ). class_up js r ≡ r) (sym (root-counted t)) (moved_ends class-moved t (was-term t w));
    forest_ends = λ t w. subst (λ (r : ℕ). forest_up js r ≡ r) (sym (top-counted t)) (moved_ends forest-moved t (in_us t (was-term t w)));
    alike = λ t u w x. attached_alike t u (was-term t w) (was-term u x);
    alone = λ t u w x f e. attached_alone t u (was-term t w) (was-term u x) (sym (string-like s js like t) ∙ f) e;
    labels = λ t w e. attached_label t (was-term t w) e;
    roots = λ t w e. attached_root t (was-term t w) e;
  }

  -- CONGRUENCE EDGES

  parts_same : (t : ℕ) → parts s' t ≡ parts s t
  parts_same t = ap (λ (x : ℕ). firsts (chain s x)) (first-like s js like t)

  pairs_same : (l : List (ℕ × ℕ)) (t u : ℕ) → Pairs s l t u → Pairs s' l t u
  pairs_same l t u p = record { one = p.one ∙ sym (parts_same t); other = p.other ∙ sym (parts_same u) }

  above_put : (t : ℕ) → is_term s t ≡ true → above_in put t ≡ above_in ts t
  above_put t w =
      above_same ts put (count s) (classed_tops s c) (λ u h. put_up u) (count s) (length put) (count s) t w (c.forest_ends t w) (let e = class-long ts (root s a) place in omega arith) (omega arith)

  module _ (m : ℕ) (p : ℕ × ℕ) (w : (is_term s p.0 ≡ true) × (is_term s p.1 ≡ true)) (f : Falls s m p) where
    put_path : path_in put p.0 p.1 ≡ path_in ts p.0 p.1
    unfolding path_in nearest_in
    put_path = along _ _ _ _ (above_put p.0 w.0) (above_put p.1 w.1)

    put_stamps : Every (λ e. (term_in put e).stamp < m) (path_in put p.0 p.1)
    put_stamps = subst (Every (λ e. (term_in put e).stamp < m)) (sym put_path) (every_map (λ e h. subst (λ (z : ℕ). z < m) (sym (ap (λ (y : Edge). y.stamp) (put_edge_lem e))) h) f.stamps)

    us_tree : top_in us p.0 ≡ top_in us p.1
    us_tree = us-together p.0 p.1 w.0 w.1 f.tree

    us_stamps : Every (λ e. (term_in us e).stamp < m) (path_in us p.0 p.1)
    us_stamps = same.paths p.0 p.1 m (in_put p.0 w.0) (in_put p.1 w.1) (put-top p.0 w.0 ∙ f.tree ∙ sym (put-top p.1 w.1)) put_stamps

    attached_tree : top s' p.0 ≡ top s' p.1
    attached_tree = treed p.0 p.1 w.0 w.1 (were (to-root p.0 p.1 w.0 w.1 f.tree))

    falls_same : Falls s' m p
    falls_same = record {
      tree = attached_tree;
      stamps = under-path us js a b js-us forest-moved same.forest js_forest away p.0 p.1 m (in_us p.0 w.0) (in_us p.1 w.1) us_tree attached_tree us_stamps;
    }

  -- the pairs of a congruence edge x, wherever it stands now
  pairs_fall : (x : ℕ) → Congruent s x → Every (Falls s' (term s x).stamp) (chain s (term s x).label_value)
  pairs_fall x g = every_map (λ p h. falls_same (term s x).stamp p h.1 h.0) (every_both g.falls (pairs-terms s audited.recorded x g))

  -- it is the edge between t and u now
  congruent_as : (t u x : ℕ) → edge_of (term s' t) ≡ turned u (term s x) → kind s t ≡ 3 → kind s u ≡ 3
      → Pairs s (chain s (term s x).label_value) t u ⊎ Pairs s (chain s (term s x).label_value) u t → Congruent s x → Congruent s' t
  congruent_as t u x i kt ku p g = record {
    child = kind-same t ∙ kt;
    parent = ap (λ (y : Edge). kind s' y.parent) i ∙ kind-same u ∙ ku;
    pairs = subst (λ (y : Edge). Pairs s' (chain s y.label_value) t y.parent ⊎ Pairs s' (chain s y.label_value) y.parent t) (sym i)
        (⊎_elim (λ h. inl (pairs_same _ t u h)) (λ h. inr (pairs_same _ u t h)) p);
    falls = subst (λ (y : Edge). Every (Falls s' y.stamp) (chain s y.label_value)) (sym i) (pairs_fall x g);
  }

  attached_congruences : Congruences s'
  attached_congruences t e q = go (ℕ_discrete t a)
    where
      w : is_term s t ≡ true
      w = was-term t (used (λ x. x.label_kind) refl s' t 2 q)

      of : From t → Congruent s' t
      of (stays h i) = let g = audited.congruences t h (sym (ap (λ (y : Edge). y.label_kind) i) ∙ q) in congruent_as t (forest_up ts t) t i g.child g.parent g.pairs g
      of (turns x wx h p i) =
          let g = audited.congruences x h (sym (ap (λ (y : Edge). y.label_kind) i) ∙ q) in
          congruent_as t x x i (ap (kind s) (sym p) ∙ g.parent) g.child
          (subst (λ (z : ℕ). Pairs s (chain s (term s x).label_value) z x ⊎ Pairs s (chain s (term s x).label_value) x z) p (⊎_elim inr inl g.pairs)) g

      go : Dec (t ≡ a) → Congruent s' t
      go (yes z) =
          let h : k ≡ 3 = sym (ap (λ (y : Term). y.label_kind) at_a) ∙ ap (λ (x : ℕ). (term s' x).label_kind) (sym z) ∙ q in
          ⊎_elim (λ n. let i = eqb-true k 1 n in absurd (omega arith)) (λ n. let i = eqb-true k 2 n in absurd (omega arith)) (either (eqb k 1) (eqb k 2) j.kinds)
      go (no d) = of (from t w e d)

  pub attached_audited : Audited s'
  attached_audited = record { roomy = roomy-like s js like audited.roomy; recorded = recorded-like s js like audited.recorded; classed = attached_classed; congruences = attached_congruences }
