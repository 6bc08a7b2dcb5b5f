-- A run of walk: the reasons that it gives, and the pairs that it sees, each accounted for.
use mathlib.Core.Path.{◌≡◌, refl, ap, ◌∙◌}
use mathlib.Core.Bool.{Bool, true, false, ◌||◌}
use mathlib.Core.List.Memᴰ
use mathlib.Core.List.{List, [], ◌∷◌, ◌++◌, Memᴰ}
use mathlib.Core.Logic.{◌⊎◌, inl, inr, ⊎_elim}
use Prim.Native.Nat.{ℕ, zero, suc, ◌≤◌, ◌<◌}
use native.Mathlib.Omega.{arith}
use lib.Dec.{eqb}
use borrow.Author.Tests.{eqb-true}
use Rattle.records.specs.Lists.{Every, none_left, and}
use Rattle.records.specs.Store.{Store, Out, ok, stop, Work, and_then, ◌>>=◌, give, term, is_term, chain, path, is_edge}
use Rattle.records.specs.Rules.{reason_rule}
use Rattle.records.specs.Make.{add_reason, with_reasons, ordered}
use Rattle.records.specs.Meaning.{IsUnder}
use Rattle.records.specs.Working.Audited.{Audited, Label, asserted, interface, congruence, definitional}
use Rattle.records.proofs.Lists.{every_map, every_append, either, both_left, every_both}
use Rattle.engine.specs.Explain.{Seen, was_seen, each, edge, walk}
use Rattle.engine.specs.Meaning.{Labels}
use Rattle.engine.proofs.Paths.{path_edges}
use Rattle.engine.proofs.Fits.{Fit, fit-zero, fit-more, pairs-fit}
use Rattle.engine.proofs.Cites.{roomed, cites, citing, citing-then, found-is}

-- equal, or seen
abbrev pub EqualOrSeen : Seen → ℕ × ℕ → Type 0
EqualOrSeen seen p = (p.0 ≡ p.1) ⊎ Memᴰ (ordered p.0 p.1) seen

-- more reasons and more pairs
pub record More (l : List (ℕ × ℕ)) (seen : Seen) (l' : List (ℕ × ℕ)) (seen' : Seen) : Type 0 where
  pub reasons : (r : ℕ × ℕ) → Memᴰ r l → Memᴰ r l'
  pub pairs : (q : ℕ × ℕ) → Memᴰ q seen → Memᴰ q seen'

pub equal-more : {l l' : List (ℕ × ℕ)} {seen seen' : Seen} → More l seen l' seen' → (p : ℕ × ℕ) → EqualOrSeen seen p → EqualOrSeen seen' p
equal-more m p (inl e) = inl e
equal-more m p (inr k) = inr (m.pairs _ k)

module _ (s : Store) where
  -- how an edge is accounted for: by its reason, by its pairs, or it is definitional
  pub data Accounted (l : List (ℕ × ℕ)) (seen : Seen) (e : ℕ) : Type 0 where
    by_reason : IsUnder l (term s e) → Accounted l seen e
    by_pairs : (term s e).label_kind ≡ 3 → Every (EqualOrSeen seen) (chain s (term s e).label_value) → Accounted l seen e
    by_definition : (term s e).label_kind ≡ 4 → Accounted l seen e

  accounted_more : {l l' : List (ℕ × ℕ)} {seen seen' : Seen} → More l seen l' seen' → (e : ℕ) → Accounted l seen e → Accounted l' seen' e
  accounted_more m e (by_reason k) = by_reason (record { labelled = k.labelled; listed = m.reasons _ k.listed })
  accounted_more m e (by_pairs k j) = by_pairs k (every_map (equal-more m) j)
  accounted_more m e (by_definition k) = by_definition k

  -- a pair seen, the way round that it was walked
  pub record Settled (l : List (ℕ × ℕ)) (seen : Seen) (q : ℕ × ℕ) : Type 0 where
    pub one : ℕ
    pub other : ℕ
    pub is : q ≡ ordered one other
    pub edges : Every (Accounted l seen) (path s one other)

  settled_more : {l l' : List (ℕ × ℕ)} {seen seen' : Seen} → More l seen l' seen' → {q : ℕ × ℕ} → Settled l seen q → Settled l' seen' q
  settled_more m w = record { one = w.one; other = w.other; is = w.is; edges = every_map (accounted_more m) w.edges }

  pub record Run (f : Work Seen) (seen : Seen) (J : List (ℕ × ℕ) → Seen → Type 0) : Type 0 where
    pub cited : List (ℕ × ℕ)
    pub after : Seen
    pub is : (n : ℕ) (rs : List (ℕ × ℕ)) → f (with_reasons (roomed s n) rs) ≡ citing (roomed s n) cited after rs
    pub causes : Every (Labels s) cited
    pub grows : (q : ℕ × ℕ) → Memᴰ q seen → Memᴰ q after
    pub fresh : (q : ℕ × ℕ) → Memᴰ q after → Memᴰ q seen ⊎ Settled cited after q
    pub ends : J cited after

  run_give : {J : List (ℕ × ℕ) → Seen → Type 0} (seen : Seen) → J [] seen → Run (give seen) seen J
  unfolding cites
  run_give seen j = record { cited = []; after = seen; is = λ n rs. refl; causes = none_left; grows = λ q m. m; fresh = λ q m. inl m; ends = j }

  -- other work that does the same
  run_as : {f : Work Seen} {seen : Seen} {J K : List (ℕ × ℕ) → Seen → Type 0} (g : Work Seen) → ((n : ℕ) (rs : List (ℕ × ℕ)) → g (with_reasons (roomed s n) rs) ≡ f (with_reasons (roomed s n) rs))
      → ((l : List (ℕ × ℕ)) (v : Seen) → J l v → K l v) → Run f seen J → Run g seen K
  run_as g e k x = record { cited = x.cited; after = x.after; is = λ n rs. e n rs ∙ x.is n rs; causes = x.causes; grows = x.grows; fresh = x.fresh; ends = k _ _ x.ends }

  -- in sequence
  module _ {f : Work Seen} {seen : Seen} (g : Seen → Work Seen) {J K : List (ℕ × ℕ) → Seen → Type 0} (x : Run f seen J) (y : Run (g x.after) x.after K) where
    pub more_left : More x.cited x.after (x.cited ++ y.cited) y.after
    more_left = record { reasons = λ r m. Memᴰ.append_left y.cited m; pairs = y.grows }

    pub more_right : More y.cited y.after (x.cited ++ y.cited) y.after
    more_right = record { reasons = λ r m. Memᴰ.append_right x.cited m; pairs = λ q m. m }

    pub run_then : {L : List (ℕ × ℕ) → Seen → Type 0} → L (x.cited ++ y.cited) y.after → Run (f >>= g) seen L
    run_then l = record {
      cited = x.cited ++ y.cited;
      after = y.after;
      is = λ n rs. ap (and_then g) (x.is n rs) ∙ citing-then (roomed s n) g x.cited y.cited x.after y.after (y.is n) rs;
      causes = every_append x.causes y.causes;
      grows = λ q m. y.grows q (x.grows q m);
      fresh = λ q m. ⊎_elim (λ n. ⊎_elim inl (λ w. inr (settled_more more_left w)) (x.fresh q n)) (λ w. inr (settled_more more_right w)) (y.fresh q m);
      ends = l;
    }

  module _ {A : Type 0} (f : A → Seen → Work Seen) (Q : A → Type 0) (R : A → List (ℕ × ℕ) → Seen → Type 0)
      (keeps : (l l' : List (ℕ × ℕ)) (seen seen' : Seen) → More l seen l' seen' → (a : A) → R a l seen → R a l' seen')
      (good : (a : A) → Q a → (seen : Seen) → Run (f a seen) seen (R a)) where
    pub each_run : {l : List A} → Every Q l → (seen : Seen) → Run (each f l seen) seen (λ c v. Every (λ a. R a c v) l)
    unfolding each
    each_run none_left seen = run_give seen none_left
    each_run (and {a = a} {l = l} q k) seen =
        let x : Run (f a seen) seen (R a) = good a q seen in
        let y : Run (each f l x.after) x.after (λ c v. Every (λ a. R a c v) l) = each_run k x.after in
        run_then (each f l) x y (and (keeps _ _ _ _ (more_left (each f l) x y) a x.ends) (every_map (keeps _ _ _ _ (more_right (each f l) x y)) y.ends))

seen-is : (p : ℕ × ℕ) (seen : Seen) → was_seen p seen ≡ true → Memᴰ (ordered p.0 p.1) seen
unfolding was_seen
seen-is p seen e = found-is (ordered p.0 p.1) seen e

-- a reason and then an answer
reason_then : (o : Out (Unit {0})) (seen : Seen)
    → and_then (λ (u : Unit {0}). give seen) o ≡ and_then (λ (u : Unit {0}). give seen) (and_then (λ (u : Unit {0}). give tt) o)
reason_then (ok s u) seen = refl
reason_then (stop n) seen = refl

module _ (s : Store) (d : Audited s) where
  abbrev pub Walks : ℕ → Type 0
  Walks h = (p : ℕ × ℕ) → Fit s h p → (seen : Seen) → Run s (walk h p seen) seen (λ l v. EqualOrSeen v p)

  reason_run : (h t : ℕ) (seen : Seen) → is_edge s t ≡ true → reason_rule ((term s t).label_kind, (term s t).label_value) ≡ true
      → ((n : ℕ) (rs : List (ℕ × ℕ)) → edge (walk h) t seen (with_reasons (roomed s n) rs) ≡ and_then (λ (u : Unit {0}). give seen) (add_reason (term s t).label_kind (term s t).label_value (with_reasons (roomed s n) rs)))
      → Run s (edge (walk h) t seen) seen (λ l v. Accounted s l v t)
  unfolding cites reason_rule
  reason_run h t seen e g q = record {
    cited = ((term s t).label_kind, (term s t).label_value) ∷ [];
    after = seen;
    is = λ n rs. q n rs ∙ reason_then (add_reason (term s t).label_kind (term s t).label_value (with_reasons (roomed s n) rs)) seen;
    causes = and (record { at = t; edge = e; is = refl; good = g }) none_left;
    grows = λ q m. m;
    fresh = λ q m. inl m;
    ends = by_reason (record { labelled = both_left _ _ g; listed = Memᴰ.head refl });
  }

  pub edge-run : (h : ℕ) → Walks h → (t : ℕ) → is_term s t ≡ true → is_edge s t ≡ true → (term s t).stamp ≤ h → (seen : Seen)
      → Run s (edge (walk h) t seen) seen (λ l v. Accounted s l v t)
  unfolding edge reason_rule
  edge-run h ih t i e b seen = go (d.classed.labels t i e)
    where
      go : Label s t → Run s (edge (walk h) t seen) seen (λ l v. Accounted s l v t)
      go (asserted k n) = reason_run h t seen e (rw k n) (λ n rs. rw k)
      go (interface k n) = reason_run h t seen e (rw k n) (λ n rs. rw k)
      go (congruence k) =
          run_as s (edge (walk h) t seen) (λ n rs. rw k) (λ l v. by_pairs k)
          (each_run s (walk h) (Fit s h) (λ p l v. EqualOrSeen v p) (λ l l' v v'. equal-more) ih (every_map (λ p f. fit-more b f) (pairs-fit s d t (d.congruences t e k))) seen)
      go (definitional k n) = run_as s (edge (walk h) t seen) (λ n rs. rw k) (λ l v j. j) (run_give s seen (by_definition k))

  seen-run : (p : ℕ × ℕ) (seen : Seen) {f : Work Seen}
      → Run s f (ordered p.0 p.1 ∷ seen) (λ l v. Every (Accounted s l v) (path s p.0 p.1)) → Run s f seen (λ l v. EqualOrSeen v p)
  seen-run p seen x = record {
    cited = x.cited;
    after = x.after;
    is = x.is;
    causes = x.causes;
    grows = λ q m. x.grows q (Memᴰ.tail m);
    fresh = λ q m. ⊎_elim (λ n. ⊎_elim (λ e. inr (record { one = p.0; other = p.1; is = e; edges = x.ends })) inl (Memᴰ.cases_cons n)) inr (x.fresh q m);
    ends = inr (x.grows _ (Memᴰ.head refl));
  }

  pub walk-run : (h : ℕ) → Walks h
  unfolding walk
  walk-run zero p f seen = run_give s seen (inl (fit-zero d f))
  walk-run (suc h) p f seen = go (walk-run h) (eqb p.0 p.1 || was_seen p seen) refl
    where
      go : Walks h → (b : Bool) → (eqb p.0 p.1 || was_seen p seen) ≡ b → Run s (walk (suc h) p seen) seen (λ l v. EqualOrSeen v p)
      go ih true e =
          run_as s (walk (suc h) p seen) (λ n rs. rw e) (λ l v j. j)
          (run_give s seen (⊎_elim (λ q. inl (eqb-true _ _ q)) (λ q. inr (seen-is p seen q)) (either (eqb p.0 p.1) _ e)))
      go ih false e =
          run_as s (walk (suc h) p seen) (λ n rs. rw e) (λ l v j. j)
          (seen-run p seen (each_run s (edge (walk h)) (λ t. ((is_term s t ≡ true) × (is_edge s t ≡ true)) × ((term s t).stamp < suc h)) (λ t l v. Accounted s l v t) (λ l l' v v'. accounted_more s)
          (λ t q. edge-run h ih t q.0.0 q.0.1 (let m = q.1 in omega arith)) (every_both (path_edges s d p f.together) f.stamps) (ordered p.0 p.1 ∷ seen)))
