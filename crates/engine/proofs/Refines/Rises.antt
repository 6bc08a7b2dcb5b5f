-- Each way through `explain_rec`: a pair seen or not, and the edges of its path in turn.
use Rattle.std.specs.Prelude.{Result, Ok, Err}
use mathlib.Core.Path.{◌≡◌, refl, sym, ap, ◌∙◌}
use mathlib.Core.Bool.{Bool, true, false, ◌||◌}
use mathlib.Core.List.Memᴰ
use mathlib.Core.List.{List, [], ◌∷◌, ◌++◌, Memᴰ}
use mathlib.Core.Logic.{⊎_elim}
use Prim.Native.Nat.{ℕ, suc, ◌*◌, ◌≤◌, ◌<◌, min, max}
use native.Mathlib.Omega.{arith}
use native.Mathlib.Decide.{ℕ_discrete}
use lib.ListN.{length}
use lib.Dec.{eqb}
use borrow.Author.Tests.{eqb-true, eq-eqb, ne_eqb}
use Rattle.records.specs.declared.refusal.Refusal.{Refusal}
use Rattle.records.specs.Refusal.{number}
use Rattle.records.specs.Lists.{any, up_to, Every}
use Rattle.records.specs.Store.{Term, Store, stop, term, is_term, within, path, path_in, forest_up, top_in, above_by, above_in, nearest_in, term_in}
use Rattle.records.specs.View.{term_at, terms_view, pairs_view}
use Rattle.records.specs.Make.{with_reasons, ordered, same_pair}
use Rattle.records.specs.Working.Audited.{Pathed}
use Rattle.records.proofs.Lists.{or_left, or_right, clash, both_left, both_right, both_true, within-high, table-length, every_both}
use Rattle.records.proofs.Climbs.{above_root, above_is, classed_tops}
use Rattle.engine.specs.Explain.{Seen, was_seen, each, edge, highest, height, walked}
use Rattle.engine.specs.Working.Seen.{place, seen_at, Noted, Tables}
use Rattle.engine.specs.Working.Walks.{Standing, Together, Edge, Walkable, Shows, Walks, ahead}
use Rattle.engine.proofs.Refines.Bits.{place-pair, place-small}
use Rattle.engine.proofs.Fits.{highest-high}
use Rattle.engine.proofs.Paths.{nearest, path_edges}
use Rattle.engine.proofs.Walk.{walked_same}
use Rattle.engine.proofs.Refines.Turns.{standing-count, standing-within, standing-term, standing_on, Left, left-turn, left-stopped, left-none, Stays, stays-none, stays_then, stays-kept, stays-room, every_head, every_tail, wide-on}

-- A PAIR

-- a term and itself: there is nothing to walk
pub pair_same : (terms cells tab reasons : List ℕ) (n k a b c : ℕ) → a ≡ b → Walks (walked (a, b)) (λ s. Together s (a, b)) terms cells tab tab reasons reasons n k c (Ok c)
pair_same terms cells tab reasons n k a b c i = record {
  kept = refl;
  more = omega arith;
  fits = λ h. h;
  shows = λ e q seen m. record {
    seen = seen;
    tabled = m;
    is = walked_same e.store e.audited (a, b) q seen (pairs_view reasons c) ∙ rw (or_left (eqb a b) (was_seen (a, b) seen) (eq-eqb a b i));
  };
}

module _ {terms cells reasons : List ℕ} {n k a b : ℕ} (e : Standing terms cells reasons n k) (q : Together e.store (a, b)) where
  left-low : a ≤ n
  left-low = within-high n a (standing-within e a q.left)

  right-low : b ≤ n
  right-low = within-high n b (standing-within e b q.right)

pub pair-seen : (terms cells tab reasons : List ℕ) (n k a b c at : ℕ) (v : Bool) → at ≡ place a b → v ≡ seen_at tab at → v ≡ true
    → Walks (walked (a, b)) (λ s. Together s (a, b)) terms cells tab tab reasons reasons n k c (Ok c)
pair-seen terms cells tab reasons n k a b c at v i j h = record {
  kept = refl;
  more = omega arith;
  fits = λ h. h;
  shows = λ e q seen m.
      let w : was_seen (a, b) seen ≡ true = sym (m.says a b (left-low e q) (right-low e q)) ∙ ap (seen_at tab) (sym i) ∙ sym j ∙ h in
      record {
        seen = seen;
        tabled = m;
        is = walked_same e.store e.audited (a, b) q seen (pairs_view reasons c) ∙ rw (or_right (eqb a b) (was_seen (a, b) seen) w);
      };
}

pub place_inside : (terms cells tab reasons : List ℕ) (n k a b at : ℕ) {c : ℕ} → Walkable terms cells tab reasons n k c (λ s. Together s (a, b)) → at ≡ place a b → at < 32 * length tab
place_inside terms cells tab reasons n k a b at w i =
    let z = place-small n a b (left-low w.standing w.fit) (right-low w.standing w.fit) in
    let l = w.wide.long in omega arith

pub nearest-fit : (terms cells tab reasons : List ℕ) (n k a b : ℕ) {c : ℕ} → Walkable terms cells tab reasons n k c (λ s. Together s (a, b))
    → Pathed terms n × (within n a ≡ true) × (within n b ≡ true)
nearest-fit terms cells tab reasons n k a b w = (pathed, standing-within e a w.fit.left, standing-within e b w.fit.right)
  where
    e : Standing terms cells reasons n k
    e = w.standing

    pathed : Pathed terms n
    pathed = record {
      limited = w.wide.few;
      room = e.words;
      tops = rw (e.terms_are, table-length (λ i. term_at terms (suc i)) n) at (classed_tops e.store e.audited.classed);
      ends = λ t h. rw e.terms_are at (e.audited.classed.forest_ends t (rw (standing-count e) h));
    }

-- a pair noted
same_place : (x y a b : ℕ) → min x y ≡ min a b → max x y ≡ max a b → place x y ≡ place a b
same_place x y a b i j = rw (i, j)

same_pair-is : (p q : ℕ × ℕ) → same_pair p q ≡ true → (p.0 ≡ q.0) × (p.1 ≡ q.1)
unfolding same_pair
same_pair-is p q e = (eqb-true _ _ (both_left _ _ e), eqb-true _ _ (both_right (eqb p.0 q.0) _ e))

same_pair_lem : (p q : ℕ × ℕ) → p.0 ≡ q.0 → p.1 ≡ q.1 → same_pair p q ≡ true
unfolding same_pair
same_pair_lem p q i j = both_true _ _ (eq-eqb _ _ i) (eq-eqb _ _ j)

pub tables_more : (n : ℕ) (tab tab' : List ℕ) (a b : ℕ) (seen : Seen) → a ≤ n → b ≤ n → Noted tab tab' (place a b) → Tables n tab seen → Tables n tab' (ordered a b ∷ seen)
unfolding was_seen any
tables_more n tab tab' a b seen ha hb d m = record { says = λ x y hx hy. go x y hx hy (ℕ_discrete (place x y) (place a b)) }
  where
    go : (x y : ℕ) → x ≤ n → y ≤ n → Dec (place x y ≡ place a b) → seen_at tab' (place x y) ≡ (same_pair (ordered x y) (ordered a b) || any (same_pair (ordered x y)) seen)
    go x y hx hy (yes i) =
        let z = place-pair x y a b i in
        ap (seen_at tab') i ∙ d.here ∙ sym (or_left _ _ (same_pair_lem (ordered x y) (ordered a b) z.0 z.1))
    go x y hx hy (no i) =
        d.elsewhere (place x y) i ∙ m.says x y hx hy ∙ sym (apart (same_pair (ordered x y) (ordered a b)) refl)
      where
        apart : (v : Bool) → same_pair (ordered x y) (ordered a b) ≡ v → (v || any (same_pair (ordered x y)) seen) ≡ any (same_pair (ordered x y)) seen
        apart true j =
            let z = same_pair-is (ordered x y) (ordered a b) j in
            absurd (i (same_place x y a b z.0 z.1))
        apart false j = refl

-- THE PATH OF A PAIR

up-here : (ts : List Term) (x m : ℕ) → x ≡ m → up_to m (above_in ts x) ≡ []
unfolding above_by up_to
up-here ts x m i = rw (eq-eqb x m i, up_to)

up-past : (m x : ℕ) (l : List ℕ) → (x ≡ m → ⊥) → up_to m (x ∷ l) ≡ x ∷ up_to m l
unfolding up_to
up-past m x l d = rw (ne_eqb x m d, up_to)

module _ (ts : List Term) (x m : ℕ) (ends : forest_up ts (top_in ts x) ≡ top_in ts x) (on : Memᴰ m (above_in ts x)) (d : x ≡ m → ⊥) where
  -- a term below m has a parent of its own
  not_root : forest_up ts x ≡ x → ⊥
  not_root i = ⊎_elim (λ j. d (sym j)) (λ j. Memᴰ.not-nil j) (Memᴰ.cases_cons (rw (above_root ts x i) at on))

  up_next : above_in ts x ≡ x ∷ above_in ts (forest_up ts x)
  up_next = above_is ts x ends not_root

  up-on : Memᴰ m (above_in ts (forest_up ts x))
  up-on = ⊎_elim (λ j. absurd (d (sym j))) (λ j. j) (Memᴰ.cases_cons (rw up_next at on))

  up_step : up_to m (above_in ts x) ≡ x ∷ up_to m (above_in ts (forest_up ts x))
  up_step = ap (up_to m) up_next ∙ up-past m x (above_in ts (forest_up ts x)) d

  ahead_step : (b : ℕ) (late : Bool) → ahead ts m b late x ≡ x ∷ ahead ts m b late (forest_up ts x)
  ahead_step b true = up_step
  ahead_step b false = ap (λ (l : List ℕ). l ++ up_to m (above_in ts b)) up_step

-- an edge of the path of a pair
pub record On (s : Store) (p : ℕ × ℕ) (t : ℕ) : Type 0 where
  pub edge_is : Edge s t
  pub low : (term s t).stamp < height s p

-- the loop over the edges, first from a up to m, then from b
pub record Rising (terms cells tab tab' reasons reasons' : List ℕ) (n k a b m x : ℕ) (late : Bool) (c c' : ℕ) : Type 0 where
  pub stays : Stays tab tab' reasons reasons' c c'
  pub here : (e : Standing terms cells reasons n k) → Together e.store (a, b) → is_term e.store x ≡ true
  pub above : (e : Standing terms cells reasons n k) → Together e.store (a, b) → Memᴰ m (above_in e.store.terms x)
  pub beside : (e : Standing terms cells reasons n k) → Together e.store (a, b) → Memᴰ m (above_in e.store.terms b)
  pub edges : (e : Standing terms cells reasons n k) → Together e.store (a, b) → Every (On e.store (a, b)) (ahead e.store.terms m b late x)
  pub left : (e : Standing terms cells reasons n k) → Together e.store (a, b) → (seen : Seen) → Tables n tab seen
      → Left (edge walked) e.store n tab' reasons' c' (ahead e.store.terms m b late x) (each (edge walked) (path e.store a b) seen (with_reasons e.store (pairs_view reasons c)))

pub rising_begin : (terms cells tab reasons : List ℕ) (n k a b m c : ℕ) → m ≡ nearest_in (terms_view terms n) a b → Rising terms cells tab tab reasons reasons n k a b m a false c c
unfolding path_in
rising_begin terms cells tab reasons n k a b m c i = record {
  stays = stays-none tab reasons c;
  here = λ e q. q.left;
  above = λ e q. let z = nearest e.store e.audited (a, b) q in rw (sym z.is ∙ near e) at z.left;
  beside = λ e q. let z = nearest e.store e.audited (a, b) q in rw (sym z.is ∙ near e) at z.right;
  edges = λ e q.
      let k₁ = every_both (path_edges e.store e.audited (a, b) q) (highest-high e.store (height e.store (a, b)) (path e.store a b) (omega arith)) in
      rw (near e) at (Rattle.records.proofs.Lists.every_map {Q = On e.store (a, b)} (λ t z. record { edge_is = record { here = z.0.0; joins = z.0.1 }; low = z.1 }) k₁);
  left = λ e q seen v. record { seen = seen; tabled = v; is = ap (λ (j : ℕ). each (edge walked) (up_to j (above_in e.store.terms a) ++ up_to j (above_in e.store.terms b)) seen (with_reasons e.store (pairs_view reasons c))) (sym (near e)) };
}
  where
    near : (e : Standing terms cells reasons n k) → nearest_in e.store.terms a b ≡ m
    near e = ap (λ (l : List Term). nearest_in l a b) e.terms_are ∙ sym i

module _ (terms cells tab tab₁ reasons reasons₁ : List ℕ) (n k a b m x : ℕ) (c c₁ : ℕ) where
  pub rising_switch : (late : Bool) → Rising terms cells tab tab₁ reasons reasons₁ n k a b m x late c c₁ → late ≡ false → x ≡ m
      → Rising terms cells tab tab₁ reasons reasons₁ n k a b m b true c c₁
  rising_switch true g z i = clash refl z
  rising_switch false g z i = record {
    stays = g.stays;
    here = λ e q. q.right;
    above = g.beside;
    beside = g.beside;
    edges = λ e q. rw (up-here e.store.terms x m i) at (g.edges e q);
    left = λ e q seen v. rw (up-here e.store.terms x m i) at (g.left e q seen v);
  }

  module _ (late : Bool) (g : Rising terms cells tab tab₁ reasons reasons₁ n k a b m x late c c₁) (d : x ≡ m → ⊥) (e : Standing terms cells reasons n k) (q : Together e.store (a, b)) where
    rising_step : ahead e.store.terms m b late x ≡ x ∷ ahead e.store.terms m b late (forest_up e.store.terms x)
    rising_step = ahead_step e.store.terms x m (e.audited.classed.forest_ends x (g.here e q)) (g.above e q) d b late

    pub rising-on : On e.store (a, b) x
    rising-on = every_head (rw rising_step at (g.edges e q))

  module _ (late : Bool) (g : Rising terms cells tab tab₁ reasons reasons₁ n k a b m x late c c₁) (d : x ≡ m → ⊥) (tab₂ reasons₂ : List ℕ)
      (t : length tab₂ ≡ length tab₁) (l : length reasons₂ ≡ length reasons₁) where
    rising-left : (e : Standing terms cells reasons n k) (q : Together e.store (a, b)) (seen : Seen) → Tables n tab seen
        → Left (edge walked) e.store n tab₁ reasons₁ c₁ (x ∷ ahead e.store.terms m b late (forest_up e.store.terms x)) (each (edge walked) (path e.store a b) seen (with_reasons e.store (pairs_view reasons c)))
    rising-left e q seen v = rw (rising_step late g d e q) at (g.left e q seen v)

    rising-shows : (r : Result ℕ Refusal) → Walks (edge walked x) (λ s. Edge s x) terms cells tab₁ tab₂ reasons₁ reasons₂ n k c₁ r
        → (e : Standing terms cells reasons n k) → Together e.store (a, b) → (seen : Seen) → Tables n tab₁ seen
        → Shows e.store n tab₂ reasons₂ r (edge walked x seen (with_reasons e.store (pairs_view reasons₁ c₁)))
    rising-shows r w e q seen v = w.shows (standing_on reasons₁ g.stays.long e) (rising-on late g d e q).edge_is seen v

    pub rising_turn : {c₂ : ℕ} → Walks (edge walked x) (λ s. Edge s x) terms cells tab₁ tab₂ reasons₁ reasons₂ n k c₁ (Ok c₂)
        → (y : ℕ) → y ≡ (term_at terms x).forest_parent → Rising terms cells tab tab₂ reasons reasons₂ n k a b m y late c c₂
    rising_turn {c₂} w y j = record {
      stays = stays_then g.stays t l w.kept w.more w.fits;
      here = λ e q. rw (parent e q) at (e.audited.classed.forest_parents x (g.here e q));
      above = λ e q. rw (parent e q) at (up-on e.store.terms x m (e.audited.classed.forest_ends x (g.here e q)) (g.above e q) d);
      beside = g.beside;
      edges = λ e q. rw (parent e q) at (every_tail (rw (rising_step late g d e q) at (g.edges e q)));
      left = λ e q seen v. let f = rising-left e q seen v in rw (parent e q) at (left-turn (edge walked) e.store n f (rising-shows (Ok c₂) w e q f.seen f.tabled));
    }
      where
        parent : (e : Standing terms cells reasons n k) → Together e.store (a, b) → (term e.store x).forest_parent ≡ y
        parent e q = ap (λ (z : Term). z.forest_parent) (standing-term e x (g.here e q)) ∙ sym j

    rising-refused : {u : Refusal} → Walks (edge walked x) (λ s. Edge s x) terms cells tab₁ tab₂ reasons₁ reasons₂ n k c₁ (Err u)
        → (e : Standing terms cells reasons n k) → Together e.store (a, b) → (seen : Seen) → Tables n tab seen
        → each (edge walked) (path e.store a b) seen (with_reasons e.store (pairs_view reasons c)) ≡ stop (number u)
    rising-refused {u} w e q seen v = let f = rising-left e q seen v in left-stopped (edge walked) e.store n f (rising-shows (Err u) w e q f.seen f.tabled)

-- THE WHOLE WALK OF A PAIR

module _ (terms cells tab tab₁ reasons : List ℕ) (n k a b c at : ℕ) (apart : a ≡ b → ⊥) (v : Bool) (i : at ≡ place a b) (j : v ≡ seen_at tab at) (h : v ≡ false) (d : Noted tab tab₁ at) where
  -- a pair not seen before does what its path's edges do in turn
  pair-shows : (tab' reasons' : List ℕ) (r : Result ℕ Refusal) (e : Standing terms cells reasons n k) (q : Together e.store (a, b)) (seen : Seen) → Tables n tab seen
      → ((seen₁ : Seen) → Tables n tab₁ seen₁ → Shows e.store n tab' reasons' r (each (edge walked) (path e.store a b) seen₁ (with_reasons e.store (pairs_view reasons c))))
      → Shows e.store n tab' reasons' r (walked (a, b) seen (with_reasons e.store (pairs_view reasons c)))
  pair-shows tab' reasons' r e q seen m f =
      let unseen : was_seen (a, b) seen ≡ false = sym (m.says a b (left-low e q) (right-low e q)) ∙ ap (seen_at tab) (sym i) ∙ sym j ∙ h in
      let z : walked (a, b) seen (with_reasons e.store (pairs_view reasons c)) ≡ each (edge walked) (path e.store a b) (ordered a b ∷ seen) (with_reasons e.store (pairs_view reasons c))
      = walked_same e.store e.audited (a, b) q seen (pairs_view reasons c) ∙ rw (ne_eqb a b apart, unseen) in
      rw z (f (ordered a b ∷ seen) (tables_more n tab tab₁ a b seen (left-low e q) (right-low e q) (rw i at d) m))

  pub rising_stop : (tab₁' reasons₁ : List ℕ) (m x : ℕ) (late : Bool) (c₁ : ℕ) (g : Rising terms cells tab₁ tab₁' reasons reasons₁ n k a b m x late c c₁) → (x ≡ m → ⊥)
      → (tab₂ reasons₂ : List ℕ) {u : Refusal} → length tab₂ ≡ length tab₁' → length reasons₂ ≡ length reasons₁
      → Walks (edge walked x) (λ s. Edge s x) terms cells tab₁' tab₂ reasons₁ reasons₂ n k c₁ (Err u)
      → Walks (walked (a, b)) (λ s. Together s (a, b)) terms cells tab tab₂ reasons reasons₂ n k c (Err u)
  rising_stop tab₁' reasons₁ m x late c₁ g z tab₂ reasons₂ {u} t l w = record {
    kept = stays-kept _ g.stays w.kept;
    more = tt;
    fits = tt;
    shows = λ e q seen v₁. pair-shows tab₂ reasons₂ (Err u) e q seen v₁ (rising-refused terms cells tab₁ tab₁' reasons reasons₁ n k a b m x c c₁ late g z tab₂ reasons₂ t l w e q);
  }

  pub rising_done : (tab₂ reasons₂ : List ℕ) (m x c₂ : ℕ) (late : Bool) → Rising terms cells tab₁ tab₂ reasons reasons₂ n k a b m x late c c₂ → late ≡ true → x ≡ m
      → Walks (walked (a, b)) (λ s. Together s (a, b)) terms cells tab tab₂ reasons reasons₂ n k c (Ok c₂)
  rising_done tab₂ reasons₂ m x c₂ true g z u = record {
    kept = g.stays.kept;
    more = g.stays.more;
    fits = g.stays.fits;
    shows = λ e q seen v₁. pair-shows tab₂ reasons₂ (Ok c₂) e q seen v₁ (λ seen₁ v₂. left-none (edge walked) e.store n (rw (up-here e.store.terms x m u) at (g.left e q seen₁ v₂)));
  }
  rising_done tab₂ reasons₂ m x c₂ false g z u = clash z refl

-- HOW FAR

-- the edges ahead, and one more before b's side begins
abbrev pub far : List Term → ℕ → ℕ → Bool → ℕ → ℕ
far ts m b true x = length (ahead ts m b true x)
far ts m b false x = suc (length (ahead ts m b false x))

pub far_switch : (ts : List Term) (m b x : ℕ) (late : Bool) → x ≡ m → late ≡ false → far ts m b true b < far ts m b late x
far_switch ts m b x true i j = clash refl j
far_switch ts m b x false i j = rw (up-here ts x m i) (omega arith)

pub far-turn : (terms cells tab₀ tab tab₁ reasons reasons₁ : List ℕ) (n k a b m x : ℕ) (late : Bool) (c c₁ : ℕ) {c₀ : ℕ} → Walkable terms cells tab₀ reasons n k c₀ (λ s. Together s (a, b))
    → Rising terms cells tab tab₁ reasons reasons₁ n k a b m x late c c₁ → (x ≡ m → ⊥) → (y : ℕ) → y ≡ (term_at terms x).forest_parent
    → far (terms_view terms n) m b late y < far (terms_view terms n) m b late x
far-turn terms cells tab₀ tab tab₁ reasons reasons₁ n k a b m x late c c₁ w g d y j =
    let e = w.standing in
    let q = w.fit in
    let parent : (term e.store x).forest_parent ≡ y = ap (λ (z : Term). z.forest_parent) (standing-term e x (g.here e q)) ∙ sym j in
    let z : ahead (terms_view terms n) m b late x ≡ x ∷ ahead (terms_view terms n) m b late y
    = rw (e.terms_are, ap (λ (t : List Term). (term_in t x).forest_parent) (sym e.terms_are) ∙ parent) at (rising_step terms cells tab tab₁ reasons reasons₁ n k a b m x c c₁ late g d e q) in
    go late z
  where
    go : (l : Bool) → ahead (terms_view terms n) m b l x ≡ x ∷ ahead (terms_view terms n) m b l y → far (terms_view terms n) m b l y < far (terms_view terms n) m b l x
    go true z = rw z (omega arith)
    go false z = rw z (omega arith)

-- WHAT THE CALLS ASK, AND WHAT FALLS

module _ (terms cells tab₀ tab tab₁ reasons reasons₁ : List ℕ) (n k a b m x : ℕ) (late : Bool) (c c₁ : ℕ) (u : Walkable terms cells tab₀ reasons n k c (λ s. Together s (a, b)))
    (g : Rising terms cells tab tab₁ reasons reasons₁ n k a b m x late c c₁) (d : x ≡ m → ⊥) where
  pub rising_walkable : length tab ≡ length tab₀ → Walkable terms cells tab₁ reasons₁ n k c₁ (λ s. Edge s x)
  rising_walkable i = record {
    standing = standing_on reasons₁ g.stays.long u.standing;
    fit = (rising-on terms cells tab tab₁ reasons reasons₁ n k a b m x c c₁ late g d u.standing u.fit).edge_is;
    wide = wide-on (g.stays.tables ∙ i) u.wide;
    roomy = stays-room g.stays u.roomy;
  }

  pub rising-low : (term_in (terms_view terms n) x).stamp < highest (terms_view terms n) (path_in (terms_view terms n) a b)
  rising-low = rw u.standing.terms_are at (rising-on terms cells tab tab₁ reasons reasons₁ n k a b m x c c₁ late g d u.standing u.fit).low
