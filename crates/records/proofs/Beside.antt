-- Reasons, keys, the name counter and the room stand beside the terms: with others in their place a store is audited as it was, and has
-- the same words.
use mathlib.Core.Path.{◌≡◌, refl}
use mathlib.Core.Bool.{true}
use mathlib.Core.List.{List}
use mathlib.Core.Logic.{inl, inr, ⊎_elim}
use Prim.Native.Nat.{ℕ, ◌≤◌}
use native.Mathlib.Omega.{arith}
use lib.ListN.{length}
use Rattle.records.specs.Lists.{all}
use Rattle.records.specs.Store.{Room, Store, term}
use Rattle.records.specs.Rules.{reason_rule, key_rule, is_equatable}
use Rattle.records.specs.Meaning.{Words, Reading, Holds}
use Rattle.records.specs.Working.Audited
use Rattle.records.specs.Working.Audited.{Part, Label, Unlabelled, Falls, Pairs, Congruent, Recorded, Classed, Roomy, Audited}
use Rattle.records.proofs.Lists.{every_map}
use Rattle.records.proofs.Grown.{Grown}

-- other reasons, keys, counter and room
module _ (s : Store) (rs ks : List (ℕ × ℕ)) (m : ℕ) (room : Room) where
  abbrev s' : Store
  s' = record { terms = s.terms; cells = s.cells; chars = s.chars; reasons = rs; keys = ks; names = m; room = room }

  part-beside : (t : ℕ) (p : ℕ × ℕ) → Part s t p → Part s' t p
  part-beside t p q = record { string = q.string; lower = q.lower; plain = q.plain }

  recorded-beside : Recorded s → all reason_rule rs ≡ true → all (key_rule s) ks ≡ true → Recorded s'
  unfolding is_equatable key_rule
  recorded-beside r good keyed = record {
    kinds = r.kinds;
    constants = r.constants;
    variables = r.variables;
    long_names = r.long_names;
    unique_names = r.unique_names;
    two_parts = r.two_parts;
    parts_good = λ t e. every_map (part-beside t) (r.parts_good t e);
    concat_second = r.concat_second;
    length_first = r.length_first;
    length_lower = r.length_lower;
    length_second = r.length_second;
    equation_sides = r.equation_sides;
    equation_first = r.equation_first;
    equation_second = r.equation_second;
    nexts = r.nexts;
    characters = r.characters;
    reasons = good;
    keys = keyed;
  }

  label_beside : (t : ℕ) → Label s t → Label s' t
  label_beside t (Audited.Label.asserted p q) = Audited.Label.asserted p q
  label_beside t (Audited.Label.interface p q) = Audited.Label.interface p q
  label_beside t (Audited.Label.congruence p) = Audited.Label.congruence p
  label_beside t (Audited.Label.definitional p q) = Audited.Label.definitional p q

  unlabelled-beside : (t : ℕ) → Unlabelled s t → Unlabelled s' t
  unlabelled-beside t u = record { kind_is = u.kind_is; value_is = u.value_is; stamp_is = u.stamp_is }

  classed-beside : Classed s → Classed s'
  classed-beside c = record {
    class_parents = c.class_parents;
    forest_parents = c.forest_parents;
    class_ends = c.class_ends;
    forest_ends = c.forest_ends;
    alike = c.alike;
    alone = c.alone;
    labels = λ t e q. label_beside t (c.labels t e q);
    roots = λ t e q. unlabelled-beside t (c.roots t e q);
  }

  falls-beside : (i : ℕ) (p : ℕ × ℕ) → Falls s i p → Falls s' i p
  falls-beside i p f = record { tree = f.tree; stamps = f.stamps }

  pairs-beside : (l : List (ℕ × ℕ)) (t u : ℕ) → Pairs s l t u → Pairs s' l t u
  pairs-beside l t u p = record { one = p.one; other = p.other }

  congruent_beside : (t : ℕ) → Congruent s t → Congruent s' t
  congruent_beside t c = record {
    child = c.child;
    parent = c.parent;
    pairs = ⊎_elim (λ p. inl (pairs-beside _ _ _ p)) (λ p. inr (pairs-beside _ _ _ p)) c.pairs;
    falls = every_map (falls-beside (term s t).stamp) c.falls;
  }

  pub audited-within : Audited s → all reason_rule rs ≡ true → all (key_rule s) ks ≡ true → Roomy s' → Audited s'
  audited-within a good keyed r = record {
    roomy = r;
    recorded = recorded-beside a.recorded good keyed;
    classed = classed-beside a.classed;
    congruences = λ t q e. congruent_beside t (a.congruences t q e);
  }

  pub reading-within : (w : Words) → Reading s w → Reading s' w
  reading-within w r = record { characters = r.characters; constants = r.constants; concats = r.concats }

  pub holds-within : (w : Words) (l : List (ℕ × ℕ)) → Holds s l w → Holds s' l w
  holds-within w l h = record { merges = h.merges; reasons = h.reasons }

  pub grown-within : Grown s s'
  grown-within = record {
    more = omega arith;
    old = λ t h. refl;
    constants = λ t e. refl;
    variables = λ t e. refl;
    concats = λ t e. refl;
    roots = λ t e. refl;
    down = λ w r. record { characters = r.characters; constants = r.constants; concats = r.concats };
    holds = holds-within;
    extend = λ w r. record { words = w; reading = reading-within w r; agree = λ t h. refl; held = holds-within w };
  }

-- the room as it was
abbrev pub beside : Store → List (ℕ × ℕ) → List (ℕ × ℕ) → ℕ → Store
beside s rs ks m = record { terms = s.terms; cells = s.cells; chars = s.chars; reasons = rs; keys = ks; names = m; room = s.room }

module _ (s : Store) (rs ks : List (ℕ × ℕ)) (m : ℕ) where
  pub audited-beside : Audited s → all reason_rule rs ≡ true → all (key_rule s) ks ≡ true → length rs ≤ s.room.reasons → length ks ≤ s.room.keys → Audited (beside s rs ks m)
  audited-beside a good keyed p q =
      audited-within s rs ks m s.room a good keyed (record { terms = a.roomy.terms; cells = a.roomy.cells; chars = a.roomy.chars; reasons = p; keys = q })

  pub reading-beside : (w : Words) → Reading s w → Reading (beside s rs ks m) w
  reading-beside = reading-within s rs ks m s.room

  pub holds-beside : (w : Words) (l : List (ℕ × ℕ)) → Holds s l w → Holds (beside s rs ks m) l w
  holds-beside = holds-within s rs ks m s.room

  pub grown-beside : Grown s (beside s rs ks m)
  grown-beside = grown-within s rs ks m s.room
