-- The classes of a store are what pairs of terms generate: this stays where two terms are joined, the pair added, and where a term is made.
use mathlib.Core.Path.{◌≡◌, refl, sym, ap, subst, ◌∙◌}
use mathlib.Core.Bool.{true}
use mathlib.Core.List.{List, [], ◌∷◌, ◌++◌, Memᴰ, append_assoc, append-nil}
use Prim.Native.Nat.{ℕ, suc, ◌≤◌}
use native.Mathlib.Decide.{dec_le}
use native.Mathlib.Omega.{arith}
use lib.ListN.{length, drop}
use lib.Seq.{drop-length, drop-append_seam}
use Rattle.records.specs.Lists.{one_more, Every, none_left, and}
use Rattle.records.specs.Store.{Term, Cell, Store, count, within, is_term, root_in, root}
use Rattle.records.specs.Rules.{key_rule}
use Rattle.records.specs.Make.{own, with_terms, with_names}
use Rattle.records.specs.Working.Audited.{Audited}
use Rattle.records.proofs.Lists.{within_low, within-high, within-is, every_map, every_both, every_append, every_mem}
use Rattle.records.proofs.Climbs.{root-self, root-term}
use Rattle.records.proofs.Grown.{Grown, grown-term, string-term}
use Rattle.records.proofs.Append
use Rattle.records.proofs.Append.{grow, More, New, kept-audited}
use Rattle.records.proofs.Beside.{beside, audited-beside}
use Rattle.records.proofs.Kept.{names-audited}
use Rattle.records.proofs.LaterStores.{Extended, as_was, one_term_more, counter, others}
use Rattle.records.proofs.Extend.{kept_grown}
use Rattle.classes.specs.Joins.{join_in}
use Rattle.history.specs.History.{Generated, itself, pair, turned, linked}
use Rattle.classes.proofs.Alike.{Like, recorded-like}
use Rattle.classes.proofs.AlikeMade.{more-like, new-like, grow_like}
use Rattle.classes.proofs.MarksLater.{since, more-terms}
use Rattle.classes.proofs.Dividing.{Joint, were, across, back}
use Rattle.classes.proofs.JoinKept.{Joinable, join-long, join_division, join-divided}

-- PAIRS

mem-more : {A : Type 0} {a : A} {l : List A} (m : List A) → Memᴰ a l → Memᴰ a (l ++ m)
mem-more m (Memᴰ.head e) = Memᴰ.head e
mem-more m (Memᴰ.tail k) = Memᴰ.tail (mem-more m k)

mem-end : {A : Type 0} (a : A) (l : List A) → Memᴰ a (one_more l a)
mem-end a [] = Memᴰ.head refl
mem-end a (b ∷ l) = Memᴰ.tail (mem-end a l)

pub generated_same : (f : ℕ → ℕ) {l : List (ℕ × ℕ)} {t u : ℕ} → Every (λ p. f p.0 ≡ f p.1) l → Generated l t u → f t ≡ f u
generated_same f k itself = refl
generated_same f k (pair m) = every_mem k m
generated_same f k (turned g) = sym (generated_same f k g)
generated_same f k (linked g h) = generated_same f k g ∙ generated_same f k h

generated_more : {l : List (ℕ × ℕ)} {t u : ℕ} (m : List (ℕ × ℕ)) → Generated l t u → Generated (l ++ m) t u
generated_more m itself = itself
generated_more m (pair k) = pair (mem-more m k)
generated_more m (turned g) = turned (generated_more m g)
generated_more m (linked g h) = linked (generated_more m g) (generated_more m h)

-- CLASSES

-- the classes of s are what the pairs of l generate
pub record Divides (s : Store) (l : List (ℕ × ℕ)) : Type 0 where
  pub terms : Every (λ p. (is_term s p.0 ≡ true) × (is_term s p.1 ≡ true)) l
  pub together : Every (λ p. root s p.0 ≡ root s p.1) l
  pub made : (t u : ℕ) → is_term s t ≡ true → is_term s u ≡ true → root s t ≡ root s u → Generated l t u

-- only the terms count
divides-terms : (s s' : Store) (l : List (ℕ × ℕ)) → s'.terms ≡ s.terms → Divides s l → Divides s' l
divides-terms s s' l e d = record {
  terms = subst (λ (ts : List Term). Every (λ p. (within (length ts) p.0 ≡ true) × (within (length ts) p.1 ≡ true)) l) (sym e) d.terms;
  together = subst (λ (ts : List Term). Every (λ p. root_in ts p.0 ≡ root_in ts p.1) l) (sym e) d.together;
  made = subst (λ (ts : List Term). (t u : ℕ) → within (length ts) t ≡ true → within (length ts) u ≡ true → root_in ts t ≡ root_in ts u → Generated l t u) (sym e) d.made;
}

module _ (s : Store) (au : Audited s) (a b k v : ℕ) (j : Joinable s a b k v) (l : List (ℕ × ℕ)) (d : Divides s l) where
  abbrev after : Store
  after = with_terms s (join_in s.terms a b k v)

  same_term_lem : (t : ℕ) → is_term after t ≡ is_term s t
  same_term_lem t = ap (λ (n : ℕ). within n t) (join-long s a b k v au j)

  wa : is_term s a ≡ true
  wa = string-term s a j.one

  wb : is_term s b ≡ true
  wb = string-term s b j.other

  pub divides-join : Divides after (one_more l (a, b))
  divides-join = record {
    terms = every_append (every_map (λ p h. (same_term_lem p.0 ∙ h.0, same_term_lem p.1 ∙ h.1)) d.terms) (and (same_term_lem a ∙ wa, same_term_lem b ∙ wb) none_left);
    together = every_append (every_map (λ p h. join-divided s a b k v au j p.0 p.1 h.0.0 h.0.1 (were h.1)) (every_both d.terms d.together))
        (and (join-divided s a b k v au j a b wa wb (across refl refl)) none_left);
    made = λ t u wt wu e. let vt = sym (same_term_lem t) ∙ wt in let vu = sym (same_term_lem u) ∙ wu in go t u vt vu (join_division s a b k v au j t u vt vu e);
  }
    where
      new : Generated (one_more l (a, b)) a b
      new = pair (mem-end (a, b) l)

      old : {t u : ℕ} → Generated l t u → Generated (one_more l (a, b)) t u
      old g = generated_more ((a, b) ∷ []) g

      go : (t u : ℕ) → is_term s t ≡ true → is_term s u ≡ true → Joint (root s) a b t u → Generated (one_more l (a, b)) t u
      go t u wt wu (were e) = old (d.made t u wt wu e)
      go t u wt wu (across p q) = linked (old (d.made t a wt wa p)) (linked new (turned (old (d.made u b wu wb q))))
      go t u wt wu (back p q) = linked (old (d.made t b wt wb p)) (linked (turned new) (turned (old (d.made u a wu wa q))))

-- a term made is alone
module _ (s : Store) (ds : List Cell) (hs : List ℕ) (k a b : ℕ) (au : Audited s) (more : More s ds hs) (new : New s ds hs k a b) (l : List (ℕ × ℕ)) (d : Divides s l) where
  abbrev grew : Store
  grew = grow s ds hs k a b

  g : Grown s grew
  g = kept_grown s ds hs k a b au more new

  new-root : (t : ℕ) → t ≡ suc (count s) → root grew t ≡ suc (count s)
  new-root t e = ap (root grew) e ∙ root-self grew.terms (suc (count s)) (ap (λ (x : Term). x.class_parent) (Append.new_term s ds hs k a b))

  is-old : (t : ℕ) → is_term grew t ≡ true → t ≤ count s → is_term s t ≡ true
  is-old t w h = within-is (count s) t (within_low _ t w) h

  is-new : (t : ℕ) → is_term grew t ≡ true → (t ≤ count s → ⊥) → t ≡ suc (count s)
  is-new t w n = let h = within-high _ t w in let e = Append.longer s ds hs k a b in omega arith

  old-low : (t : ℕ) → is_term s t ≡ true → root grew t ≤ count s
  old-low t w = subst (λ (r : ℕ). r ≤ count s) (sym (g.roots t w)) (within-high (count s) (root s t) (root-term s au.classed t w))

  pub divides-grow : Divides grew l
  divides-grow = record {
    terms = every_map (λ p h. (grown-term g p.0 h.0, grown-term g p.1 h.1)) d.terms;
    together = every_map (λ p h. g.roots p.0 h.0.0 ∙ h.1 ∙ sym (g.roots p.1 h.0.1)) (every_both d.terms d.together);
    made = λ t u wt wu e. go t u wt wu e (dec_le t (count s)) (dec_le u (count s));
  }
    where
      go : (t u : ℕ) → is_term grew t ≡ true → is_term grew u ≡ true → root grew t ≡ root grew u → Dec (t ≤ count s) → Dec (u ≤ count s) → Generated l t u
      go t u wt wu e (yes p) (yes q) =
          let vt = is-old t wt p in let vu = is-old u wu q in
          d.made t u vt vu (sym (g.roots t vt) ∙ e ∙ g.roots u vu)
      go t u wt wu e (yes p) (no q) = let h = old-low t (is-old t wt p) in let i = new-root u (is-new u wu q) in absurd (omega arith)
      go t u wt wu e (no p) (yes q) = let h = old-low u (is-old u wu q) in let i = new-root t (is-new t wt p) in absurd (omega arith)
      go t u wt wu e (no p) (no q) = subst (λ (z : ℕ). Generated l t z) (is-new t wt p ∙ sym (is-new u wu q)) itself

since-more : (s s' : Store) (x : Term) (l : List Term) → s'.terms ≡ one_more s.terms x ++ l → since s s' ≡ x ∷ l
since-more s s' x l e = ap (drop (count s)) (e ∙ append_assoc s.terms (x ∷ []) l) ∙ drop-append_seam s.terms (x ∷ l)

-- other reasons and keys beside a table of the same terms
beside-like : (s : Store) (us : List Term) (rs ks : List (ℕ × ℕ)) → Like s.terms us → Audited (beside s rs ks s.names) → Audited (with_terms s us) → Audited (with_terms (beside s rs ks s.names) us)
unfolding key_rule
beside-like s us rs ks l a au =
    audited-beside (with_terms s us) rs ks s.names au a.recorded.reasons (recorded-like (beside s rs ks s.names) us l a.recorded).keys a.roomy.reasons a.roomy.keys

-- so are all terms that a later store has more, behind a table of the same terms
pub divides-later : (s s' : Store) (us : List Term) (l : List (ℕ × ℕ)) → Audited (with_terms s us) → Like s.terms us → Extended s s' → Divides (with_terms s us) l → Divides (with_terms s' (us ++ since s s')) l
divides-later s s' us l au k as_was d = divides-terms (with_terms s us) _ l (ap (λ (m : List Term). us ++ m) (drop-length s.terms) ∙ append-nil us) d
divides-later s s' us l au k (one_term_more {ds = ds} {hs = hs} {k = kind} {a = a} {b = b} m n p) d =
    let m' = more-like s us k ds hs kind a b m in
    let n' = new-like s us k ds hs kind a b n in
    let s₁ = grow s ds hs kind a b in
    let x = own (suc (count s)) kind a b in
    let e : one_more us (own (suc (length us)) kind a b) ≡ one_more us x = ap (λ (j : ℕ). one_more us (own (suc j) kind a b)) k.long in
    let us₁ = one_more us x in
    let au₁ = subst (λ (ts : List Term). Audited (with_terms s₁ ts)) e (kept-audited (with_terms s us) ds hs kind a b au m' n') in
    let k₁ = subst (Like s₁.terms) e (grow_like s us k ds hs kind a b) in
    let d₁ = subst (λ (ts : List Term). Divides (with_terms s₁ ts) l) e (divides-grow (with_terms s us) ds hs kind a b au m' n' l d) in
    divides-terms (with_terms s' (us₁ ++ since s₁ s')) _ l (ap (λ (r : List Term). us ++ r) (since-more s s' x (since s₁ s') (more-terms p).terms) ∙ sym (append_assoc us (x ∷ []) (since s₁ s')))
    (divides-later s₁ s' us₁ l au₁ k₁ p d₁)
divides-later s s' us l au k (counter m p) d =
    divides-later (with_names s m) s' us l (names-audited (with_terms s us) m au) k p (divides-terms (with_terms s us) _ l refl d)
divides-later s s' us l au k (others rs ks a p) d =
    divides-later (beside s rs ks s.names) s' us l (beside-like s us rs ks k a au) k p (divides-terms (with_terms s us) _ l refl d)
