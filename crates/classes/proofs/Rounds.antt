-- A tree re-rooted: every edge keeps its ends, label and stamp, the trees are the same, and so are the stamps on each path.
use mathlib.Core.Path.{◌≡◌, refl, sym, ap, subst, ◌∙◌}
use mathlib.Core.Bool.{true}
use mathlib.Core.List.{List}
use Prim.Native.Nat.{ℕ, ◌<◌}
use native.Mathlib.Decide.{ℕ_discrete}
use lib.ListN.{length}
use Rattle.records.specs.Lists.{Every}
use Rattle.records.specs.Store.{Term, term_in, within, forest_up, top_in, path_in}
use Rattle.records.proofs.Rises.{Rise, ends, goes, rise-by}
use Rattle.classes.specs.Joins.{Edge, edge, edge_of, turned, bearing, turns, reroot_in, Stands, here, over}
use Rattle.classes.specs.Working.Carries.{Forest}
use Rattle.classes.proofs.Tables.{Flipped, turn-root, turn_flips}
use Rattle.classes.proofs.Turning.{rise-fresh, up-child, up-away, flip_words, turned-way}
use Rattle.classes.proofs.Flips.{flip_forest, flip_together, flip_apart, flip_path}

-- where the edge of t in us comes from: it stood on t, or on the other end c
pub data Came (ts us : List Term) (t : ℕ) : Type 0 where
  as_was : edge_of (term_in us t) ≡ edge_of (term_in ts t) → Came ts us t
  round : (c : ℕ) → within (length ts) c ≡ true → (forest_up ts c ≡ c → ⊥) → forest_up ts c ≡ t → edge_of (term_in us t) ≡ turned c (term_in ts c) → Came ts us t

-- us is ts with edges turned round
pub record Same (ts us : List Term) : Type 0 where
  pub long : length us ≡ length ts
  pub words : (f : Term → ℕ) → ((y : Term) (e : Edge) → f (bearing y e) ≡ f y) → (u : ℕ) → f (term_in us u) ≡ f (term_in ts u)
  pub forest : Forest us
  pub together : (a b : ℕ) → within (length ts) a ≡ true → within (length ts) b ≡ true → top_in ts a ≡ top_in ts b → top_in us a ≡ top_in us b
  pub apart : (a b : ℕ) → within (length ts) a ≡ true → within (length ts) b ≡ true → top_in us a ≡ top_in us b → top_in ts a ≡ top_in ts b
  pub edges : (t : ℕ) → within (length ts) t ≡ true → (forest_up us t ≡ t → ⊥) → Came ts us t
  pub stands : (t : ℕ) → within (length ts) t ≡ true → (forest_up ts t ≡ t → ⊥) → Stands ts us t
  pub paths : (a b m : ℕ) → within (length ts) a ≡ true → within (length ts) b ≡ true → top_in ts a ≡ top_in ts b
      → Every (λ e. (term_in ts e).stamp < m) (path_in ts a b) → Every (λ e. (term_in us e).stamp < m) (path_in us a b)

pub same_none : (ts : List Term) → Forest ts → Same ts ts
same_none ts f = record {
  long = refl;
  words = λ g h u. refl;
  forest = f;
  together = λ a b v w e. e;
  apart = λ a b v w e. e;
  edges = λ t w d. as_was refl;
  stands = λ t w d. here refl;
  paths = λ a b m v w e k. k;
}

-- an edge's label and stamp with another parent
abbrev toward : ℕ → Edge → Edge
toward t e = edge t e.label_kind e.label_value e.stamp

module _ {ts us vs : List Term} {x p : ℕ} (s : Same ts us) (f : Flipped us vs x p) (up-x : forest_up us x ≡ p) (d : p ≡ x → ⊥) (root-p : forest_up us p ≡ p) (wx : within (length ts) x ≡ true) where
  there : (t : ℕ) → within (length ts) t ≡ true → within (length us) t ≡ true
  there t w = ap (λ (n : ℕ). within n t) s.long ∙ w

  -- the edge that was turned
  came-p : Came ts us x → Came ts vs p
  came-p (as_was e) = round x wx (λ z. d (sym up-x ∙ ap (λ (q : Edge). q.parent) e ∙ z)) (sym (ap (λ (q : Edge). q.parent) e) ∙ up-x) (ap edge_of f.parent ∙ ap (toward x) e)
  came-p (round c wc n q e) =
      let i : c ≡ p = sym (ap (λ (y : Edge). y.parent) e) ∙ up-x in
      as_was (ap edge_of f.parent ∙ ap (toward x) e ∙ ap (λ (y : ℕ). turned x (term_in ts y)) i ∙ ap (λ (y : ℕ). turned y (term_in ts p)) (sym (sym (ap (forest_up ts) i) ∙ q)))

  came-other : (t : ℕ) → term_in vs t ≡ term_in us t → Came ts us t → Came ts vs t
  came-other t i (as_was e) = as_was (ap edge_of i ∙ e)
  came-other t i (round c wc n q e) = round c wc n q (ap edge_of i ∙ e)

  -- and where each edge of ts is
  went : (t : ℕ) → (forest_up ts t ≡ t → ⊥) → Stands ts us t → Stands ts vs t
  went t n (here e) = go (ℕ_discrete t x) (ℕ_discrete t p)
    where
      up-t : forest_up us t ≡ forest_up ts t
      up-t = ap (λ (y : Edge). y.parent) e

      go : Dec (t ≡ x) → Dec (t ≡ p) → Stands ts vs t
      go (yes a) b =
          let i : forest_up ts t ≡ p = sym up-t ∙ ap (forest_up us) a ∙ up-x in
          over (ap (λ (y : ℕ). edge_of (term_in vs y)) i ∙ ap edge_of f.parent ∙ ap (λ (y : ℕ). turned y (term_in us y)) (sym a) ∙ ap (toward t) e)
      go (no a) (yes b) = absurd (n (sym up-t ∙ ap (forest_up us) b ∙ root-p ∙ sym b))
      go (no a) (no b) = here (ap edge_of (f.away t a b) ∙ e)
  went t n (over e) = go (ℕ_discrete (forest_up ts t) x) (ℕ_discrete (forest_up ts t) p)
    where
      up-q : forest_up us (forest_up ts t) ≡ t
      up-q = ap (λ (y : Edge). y.parent) e

      go : Dec (forest_up ts t ≡ x) → Dec (forest_up ts t ≡ p) → Stands ts vs t
      go (yes a) b =
          let i : t ≡ p = sym up-q ∙ ap (forest_up us) a ∙ up-x in
          here (ap (λ (y : ℕ). edge_of (term_in vs y)) i ∙ ap edge_of f.parent ∙ ap (λ (y : ℕ). turned x (term_in us y)) (sym a) ∙ ap (toward x) e ∙ ap (λ (y : ℕ). turned y (term_in ts t)) (sym a))
      go (no a) (yes b) = absurd (n (b ∙ sym root-p ∙ ap (forest_up us) (sym b) ∙ up-q))
      go (no a) (no b) = over (ap edge_of (f.away (forest_up ts t) a b) ∙ e)

  same_turn : Same ts vs
  same_turn = record {
    long = f.long ∙ s.long;
    words = λ g h u. flip_words f g h u ∙ s.words g h u;
    forest = flip_forest f up-x d root-p s.forest (there x wx);
    together = λ a b v w e. flip_together f up-x d root-p s.forest (there x wx) a b (there a v) (there b w) (s.together a b v w e);
    apart = λ a b v w e. s.apart a b v w (flip_apart f up-x d root-p s.forest (there x wx) a b (there a v) (there b w) e);
    edges = λ t w n. from t w n (ℕ_discrete t x) (ℕ_discrete t p);
    stands = λ t w n. went t n (s.stands t w n);
    paths = λ a b m v w e k. flip_path f up-x d root-p s.forest (there x wx) a b (there a v) (there b w) m (s.together a b v w e) (s.paths a b m v w e k);
  }
    where
      from : (t : ℕ) → within (length ts) t ≡ true → (forest_up vs t ≡ t → ⊥) → Dec (t ≡ x) → Dec (t ≡ p) → Came ts vs t
      from t w n (yes a) b = absurd (n (subst (λ (y : ℕ). forest_up vs y ≡ y) (sym a) (up-child f)))
      from t w n (no a) (yes b) = subst (Came ts vs) (sym b) (came-p (s.edges x wx (λ z. d (sym up-x ∙ z))))
      from t w n (no a) (no b) = came-other t (f.away t a b) (s.edges t w (λ z. n (up-away f t a b ∙ z)))

-- re-rooting
module _ (ts : List Term) (f : Forest ts) where
  same_way : {x : ℕ} {l : List ℕ} → Rise ts x l → within (length ts) x ≡ true → Same ts (turns l ts)
  unfolding turns
  same_way {x} (ends e) w = subst (Same ts) (sym (turn-root ts x e)) (same_none ts f)
  same_way {x} (goes {l = l} d r) w =
      let wp = f.closed.stays x w in
      let k = turned-way ts f.closed f.unlabelled r wp in
      let s = same_way r wp in
      let i : forest_up (turns l ts) x ≡ forest_up ts x = ap (λ (y : Term). y.forest_parent) (k.away x (rise-fresh d r)) in
      same_turn s (turn_flips (turns l ts) x (forest_up ts x) (ap (λ (n : ℕ). within n x) s.long ∙ w) (ap (λ (n : ℕ). within n (forest_up ts x)) s.long ∙ wp) i d) i d (ap (λ (y : Edge). y.parent) k.here) w

  pub reroot_same : (a : ℕ) → within (length ts) a ≡ true → Same ts (reroot_in ts a)
  reroot_same a w = same_way (rise-by ts (length ts) a (f.ended a w)) w
