-- Where each pair seen is accounted for, it has equal words under all words for which the definitional merges and the reasons hold.
use mathlib.Core.Path.{◌≡◌, refl, sym, ap, ◌∙◌}
use mathlib.Core.Bool.{true}
use mathlib.Core.List.{List, Memᴰ}
use mathlib.Core.Logic.{◌⊎◌, inl, inr, ⊎_elim}
use Prim.Native.Nat.{ℕ, zero, suc, min, max, ◌≤◌, ◌<◌}
use native.Mathlib.Decide.{dec_le}
use native.Mathlib.Omega.{arith}
use Rattle.records.specs.Lists.{concat_map, firsts, seconds, Every, none_left, and}
use Rattle.records.specs.Store.{Store, term, chain, parts, path, is_edge}
use Rattle.records.specs.Make.{ordered}
use Rattle.records.specs.Meaning.{Words, Reading, EqualEnds, Holds}
use Rattle.records.specs.Working.Audited.{Audited, Pairs, Congruent}
use Rattle.records.proofs.Lists.{every_map, every_both}
use Rattle.engine.specs.Explain.{Seen}
use Rattle.engine.proofs.Paths.{path_edges, path_joins}
use Rattle.engine.proofs.Fits.{Fit, fit-turned, pairs-fit}
use Rattle.engine.proofs.Run.{EqualOrSeen, Accounted, by_reason, by_pairs, by_definition, Settled}

-- pairs of equal words join to equal words
pairs-concat_map : (w : Words) {l : List (ℕ × ℕ)} → Every (λ p. w p.0 ≡ w p.1) l → concat_map w (firsts l) ≡ concat_map w (seconds l)
unfolding concat_map firsts seconds
pairs-concat_map w none_left = refl
pairs-concat_map w (and e k) = let i = pairs-concat_map w k in cc

same_pair_lem : (a b c d : ℕ) → min a b ≡ min c d → max a b ≡ max c d → ((a ≡ c) × (b ≡ d)) ⊎ ((a ≡ d) × (b ≡ c))
same_pair_lem a b c d p q = go (dec_le a b) (dec_le c d)
  where
    go : Dec (a ≤ b) → Dec (c ≤ d) → ((a ≡ c) × (b ≡ d)) ⊎ ((a ≡ d) × (b ≡ c))
    go (yes h) (yes k) = inl (omega arith)
    go (yes h) (no k) = inr (omega arith)
    go (no h) (yes k) = inr (omega arith)
    go (no h) (no k) = inl (omega arith)

-- where each pair seen is settled, and the reasons hold
module _ (s : Store) (d : Audited s) (l : List (ℕ × ℕ)) (seen : Seen) (settled : (q : ℕ × ℕ) → Memᴰ q seen → Settled s l seen q)
    (w : Words) (reading : Reading s w) (holds : Holds s l w) where
  -- a joined pair has equal words where the stamps of its path are below m
  abbrev Claim : ℕ → Type 0
  Claim m = (p : ℕ × ℕ) → Fit s m p → EqualOrSeen seen p → w p.0 ≡ w p.1

  congruent : (t : ℕ) → Congruent s t → Every (λ p. w p.0 ≡ w p.1) (chain s (term s t).label_value) → EqualEnds s w t
  congruent t c k = reading.concats t c.child ∙ ⊎_elim one other c.pairs ∙ sym (reading.concats _ c.parent)
    where
      one : Pairs s (chain s (term s t).label_value) t (term s t).forest_parent → concat_map w (parts s t) ≡ concat_map w (parts s (term s t).forest_parent)
      one p = ap (concat_map w) (sym p.one) ∙ pairs-concat_map w k ∙ ap (concat_map w) p.other

      other : Pairs s (chain s (term s t).label_value) (term s t).forest_parent t → concat_map w (parts s t) ≡ concat_map w (parts s (term s t).forest_parent)
      other p = ap (concat_map w) (sym p.other) ∙ sym (pairs-concat_map w k) ∙ ap (concat_map w) p.one

  edge-equal : (m : ℕ) → ((j : ℕ) → j < m → Claim j) → (t : ℕ) → is_edge s t ≡ true → (term s t).stamp < m → Accounted s l seen t → EqualEnds s w t
  edge-equal m ih t e b (by_reason k) = holds.reasons t e k
  edge-equal m ih t e b (by_pairs k j) =
      let c = d.congruences t e k in
      congruent t c (every_map (λ p q. ih (term s t).stamp b p q.0 q.1) (every_both (pairs-fit s d t c) j))
  edge-equal m ih t e b (by_definition k) = holds.merges t e k

  path-equal : (m : ℕ) → ((j : ℕ) → j < m → Claim j) → (p : ℕ × ℕ) → Fit s m p → Every (Accounted s l seen) (path s p.0 p.1) → w p.0 ≡ w p.1
  path-equal m ih p f k =
      path_joins s d w p f.together
      (every_map (λ t q. edge-equal m ih t q.0.0.1 q.0.1 q.1) (every_both (every_both (path_edges s d p f.together) f.stamps) k))

  claim : (m : ℕ) → ((j : ℕ) → j < m → Claim j) → Claim m
  claim m ih p f (inl e) = ap w e
  claim m ih p f (inr k) = go (settled _ k)
    where
      go : Settled s l seen (ordered p.0 p.1) → w p.0 ≡ w p.1
      go x = ⊎_elim one other (same_pair_lem p.0 p.1 x.one x.other (ap (λ (q : ℕ × ℕ). q.0) x.is) (ap (λ (q : ℕ × ℕ). q.1) x.is))
        where
          one : (p.0 ≡ x.one) × (p.1 ≡ x.other) → w p.0 ≡ w p.1
          one e = path-equal m ih p f (rw (e.0, e.1) x.edges)

          other : (p.0 ≡ x.other) × (p.1 ≡ x.one) → w p.0 ≡ w p.1
          other e = sym (path-equal m ih (p.1, p.0) (fit-turned d f) (rw (e.0, e.1) x.edges))

  lower : (m j : ℕ) → j < m → Claim j
  lower zero j h = absurd (omega arith)
  lower (suc m) j h = claim j (λ i lt. lower m i (omega arith))

  pub words-equal : (m : ℕ) → Claim m
  words-equal m = claim m (lower m)
