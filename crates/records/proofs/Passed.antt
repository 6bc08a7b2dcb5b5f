-- The audit answers 0 exactly where the facts of specs/Working/Audited.antt hold.
use Rattle.std.specs.Prelude.{if◌then◌else◌}
use mathlib.Core.Path.{◌≡◌, refl, sym, ap, subst}
use mathlib.Core.Bool.{Bool, true, false, not, ◌&&◌, ◌||◌, false≢true}
use mathlib.Core.List.{List}
use mathlib.Core.Logic.{inl, inr, ⊎_elim}
use Prim.Native.Nat.{ℕ, zero, suc, ◌≤◌, ◌<◌}
use native.Mathlib.Omega.{arith}
use lib.ListN.{length}
use lib.Dec.{eqb, ltb, leb}
use borrow.Author.Tests.{not-true, eqb-true, eq-eqb, ltb-true, ltb-false, lt-ltb, leb-true, le-leb}
use Rattle.records.specs.declared.State.{State}
use Rattle.records.specs.Lists.{all, all_below}
use Rattle.records.specs.Store.{Store, term, cell, count, kind, within, is_term, is_string, text, chain, root, same_class, is_edge}
use Rattle.records.specs.View.{Lent, store_of, term_at, sizes}
use Rattle.records.specs.Index.{Indexed, index_rule, SameIndex}
use Rattle.records.specs.Rules.{each_term, is_number, cell_rule, text_rule, named, name_rule, part_rule, concat_rule, length_rule, is_equatable, equation_rule, term_rule, records_rule, parents_rule, ends_rule, alike_rule, alone_rule, edge_label, label_rule, classes_rule, pairs_of, falls_rule, congruence_rule, is_congruence, congruences_rule, audit_store, audit_index, first_due, audit}
use Rattle.records.specs.Working.Audited.{Part, Next, last, later, Label, asserted, interface, congruence, definitional, Unlabelled, Falls, Pairs, Congruent, Recorded, Classed, Congruences, Roomy, Audited, Sized, Ready, Verdict, ready, short, unrecorded, unclassed, incongruent, unindexed}
use Rattle.records.proofs.Lists.{both_left, both_right, both_true, either, or_left, or_right, clash, decide, within_low, within-high, within-is, below_at, below_all, table-length, word_is, word_same, every_map, all_every, every_all}
use Rattle.records.proofs.Refines.RuleLaws.{sized_of, sizes_of}
use Rattle.records.proofs.Grown.{used, kind-term}
use Rattle.records.proofs.IndexSays.{says}
use Rattle.records.proofs.IndexLaws.{same_none}
use Rattle.records.proofs.IndexStores.{SameRecords, records_same, indexed_records}

-- TESTS

-- both tests of a conjunction
both : (a b : Bool) → a && b ≡ true → (a ≡ true) × (b ≡ true)
both true b e = (refl, e)
both false b e = absurd (false≢true e)

abbrev Three : Bool → Bool → Bool → Type 0
Three a b c = (a ≡ true) × (b ≡ true) × (c ≡ true)

each : (a b c : Bool) → a && b && c ≡ true → Three a b c
each true true c e = (refl, refl, e)
each true false c e = absurd (false≢true e)
each false b c e = absurd (false≢true e)

only : (a : Bool) → a || false ≡ true → a ≡ true
only true e = refl
only false e = e

refuted : {X : Type 0} (a : Bool) → (a ≡ true → X) → (X → ⊥) → a ≡ false
refuted true f n = absurd (n (f refl))
refuted false f n = refl

-- a rule of every number from 1 to n
each_at : (rule : ℕ → Bool) (n t : ℕ) → all_below (λ i. rule (suc i)) n ≡ true → within n t ≡ true → rule t ≡ true
each_at rule n zero e w = let l = within_low n 0 w in absurd (omega arith)
each_at rule n (suc t) e w = below_at (λ i. rule (suc i)) n e t (within-high n (suc t) w)

each_all : (rule : ℕ → Bool) (n : ℕ) → ((t : ℕ) → within n t ≡ true → rule t ≡ true) → all_below (λ i. rule (suc i)) n ≡ true
each_all rule n f = below_all (λ i. rule (suc i)) n (λ k l. f (suc k) (within-is n (suc k) (omega arith) l))

-- SIZES: that the test is the facts stands in RuleLaws

pub roomy_of : (m : Lent) (c : State) → Sized m c → Roomy (store_of m c)
roomy_of m c z = record {
  terms = rw table-length (omega arith);
  cells = rw table-length (omega arith);
  chars = rw table-length (omega arith);
  reasons = rw table-length (omega arith);
  keys = rw table-length (omega arith);
}

-- counts within the room fit the slices: what a working function leaves is ready again
pub sized-after : (m m' : Lent) (c c' : State) → Sized m c → length m'.terms ≡ length m.terms → length m'.cells ≡ length m.cells → Roomy (store_of m' c') → Sized m' c'
sized-after m m' c c' z e f r =
    let t = rw table-length at r.terms in
    let l = rw table-length at r.cells in
    let h = rw table-length at r.chars in
    let g = rw table-length at r.reasons in
    let k = rw table-length at r.keys in omega arith

-- RECORDS

-- the rule of each kind, of the five that apply by kind
record ByKind (k : ℕ) (a b b' c d e : Bool) : Type 0 where
  known : within 5 k ≡ true
  one : k ≡ 1 → a ≡ true
  two : k ≡ 2 → b ≡ true
  named : k ≡ 2 → b' ≡ true
  three : k ≡ 3 → c ≡ true
  four : k ≡ 4 → d ≡ true
  five : k ≡ 5 → e ≡ true

rules_by : (k : ℕ) (a b b' c d e : Bool) → (eqb k 1 && a || eqb k 2 && b && b' || eqb k 3 && c || eqb k 4 && d || eqb k 5 && e) ≡ true → ByKind k a b b' c d e
rules_by k a b b' c d e h = record {
  known = ⊎_elim (λ g. ⊎_elim (λ f. ⊎_elim (λ r. ⊎_elim (λ q. hit 0 (both_left _ a q) (omega arith)) (λ q. hit 1 (both_left _ b (both_left _ b' q)) (omega arith)) (either _ _ r))
      (λ r. hit 2 (both_left _ c r) (omega arith)) (either _ _ f)) (λ f. hit 3 (both_left _ d f) (omega arith)) (either _ _ g)) (λ g. hit 4 (both_left _ e g) (omega arith)) (either _ _ h);
  one = λ q. only a (only _ (only _ (only _ (rw q at h))));
  two = λ q. both_left b b' (only _ (only _ (only _ (rw q at h))));
  named = λ q. both_right b b' (only _ (only _ (only _ (rw q at h))));
  three = λ q. only c (only _ (rw q at h));
  four = λ q. only d (rw q at h);
  five = λ q. rw q at h;
}
  where
    hit : (j : ℕ) → eqb k (suc j) ≡ true → suc j ≤ 5 → within 5 k ≡ true
    hit j q l = let z = eqb-true k (suc j) q in within-is 5 k (omega arith) (omega arith)

by_rules : (k : ℕ) (a b b' c d e : Bool) → ByKind k a b b' c d e → (eqb k 1 && a || eqb k 2 && b && b' || eqb k 3 && c || eqb k 4 && d || eqb k 5 && e) ≡ true
unfolding within
by_rules zero a b b' c d e h = absurd (false≢true h.known)
by_rules (suc zero) a b b' c d e h = rw (h.one refl)
by_rules (suc (suc zero)) a b b' c d e h = rw (h.two refl, h.named refl)
by_rules (suc (suc (suc zero))) a b b' c d e h = rw (h.three refl)
by_rules (suc (suc (suc (suc zero)))) a b b' c d e h = rw (h.four refl)
by_rules (suc (suc (suc (suc (suc zero))))) a b b' c d e h = h.five refl
by_rules (suc (suc (suc (suc (suc (suc k)))))) a b b' c d e h = let z = within-high 5 (suc (suc (suc (suc (suc (suc k)))))) h.known in absurd (omega arith)

module _ (s : Store) (t : ℕ) where
  name_first : name_rule s t ≡ true → (u : ℕ) → u < t → kind s u ≡ 2 → text s t ≡ text s u → ⊥
  unfolding name_rule named
  name_first e u l k q =
      let n = below_at (λ v. not (named (text s t) s v)) t (both_right (ltb 0 (term s t).second) _ e) u l in
      clash (both_true _ _ (eq-eqb _ _ k) (word_same _ _ (sym q))) (not-true _ n)

  name_rule_lem : 1 ≤ (term s t).second → ((u : ℕ) → kind s u ≡ 2 → text s t ≡ text s u → t ≡ u) → name_rule s t ≡ true
  unfolding name_rule named
  name_rule_lem h f = both_true _ _ (lt-ltb _ _ h) (below_all (λ v. not (named (text s t) s v)) t (λ u l. decide (named (text s t) s u)
      (λ e. let p = both _ _ e in let q = f u (eqb-true _ _ p.0) (sym (word_is _ _ p.1)) in absurd (omega arith)) (λ e. rw e)))

  concat_of_lem : concat_rule s t ≡ true → Three (leb 2 (length (chain s (term s t).first))) (all (part_rule s t) (chain s (term s t).first)) (eqb (term s t).second 0)
  unfolding concat_rule
  concat_of_lem e = each _ _ _ e

  length_of_term : length_rule s t ≡ true → Three (is_string s (term s t).first) (ltb (term s t).first t) (eqb (term s t).second 0)
  unfolding length_rule
  length_of_term e = each _ _ _ e

  equation_of_lem : equation_rule s t ≡ true → Three (is_equatable s (term s t).first (term s t).second) (ltb (term s t).first t) (ltb (term s t).second t)
  unfolding equation_rule
  equation_of_lem e = each _ _ _ e

  part_of : (p : ℕ × ℕ) → part_rule s t p ≡ true → Part s t p
  unfolding part_rule
  part_of p e = let q = each _ _ _ e in record { string = q.0; lower = ltb-true _ _ q.1; plain = eqb-true _ _ q.2 }

  of_part : (p : ℕ × ℕ) → Part s t p → part_rule s t p ≡ true
  unfolding part_rule
  of_part p h = both_true _ _ (both_true _ _ h.string (lt-ltb _ _ h.lower)) (eq-eqb _ _ h.plain)

  next_of : cell_rule s t ≡ true → Next s.cells t
  unfolding cell_rule
  next_of e = ⊎_elim (λ z. last (eqb-true _ _ z)) (λ z. let p = both _ _ z in later (ltb-true _ _ p.0) (leb-true _ _ p.1)) (either _ _ e)

  of-next : Next s.cells t → cell_rule s t ≡ true
  unfolding cell_rule
  of-next (last e) = or_left _ _ (eq-eqb _ _ e)
  of-next (later a b) = or_right (eqb (cell s t).next 0) _ (both_true _ _ (lt-ltb _ _ a) (le-leb _ _ b))

  abbrev Kinds : Type 0
  Kinds = ByKind (kind s t) (text_rule s t) (text_rule s t) (name_rule s t) (concat_rule s t) (length_rule s t) (equation_rule s t)

  kinds-of : term_rule s t ≡ true → Kinds
  unfolding term_rule
  kinds-of e = rules_by _ _ _ _ _ _ _ e

  of-kinds : Kinds → term_rule s t ≡ true
  unfolding term_rule
  of-kinds h = by_rules _ _ _ _ _ _ _ h

module _ (s : Store) (f : (t : ℕ) → is_term s t ≡ true → Kinds s t) where
  -- the name of a variable stands at no lower one
  unique : (t u : ℕ) → kind s t ≡ 2 → kind s u ≡ 2 → text s t ≡ text s u → t ≡ u
  unique t u p q e = decide (ltb u t) (λ l. absurd (name_first s t ((f t (kind-term s t 1 p)).named p) u (ltb-true _ _ l) q e))
      (λ l. decide (ltb t u) (λ h. absurd (name_first s u ((f u (kind-term s u 1 q)).named q) t (ltb-true _ _ h) p (sym e)))
      (λ h. let a = ltb-false u t l in let b = ltb-false t u h in omega arith))

pub recorded-of : (s : Store) → records_rule s ≡ true → Recorded s
unfolding records_rule text_rule name_rule
recorded-of s e =
    let p = both _ _ e in
    let r = both _ _ p.0 in
    let f = both _ _ r.0 in
    let g = both _ _ f.0 in
    let h : (t : ℕ) → is_term s t ≡ true → Kinds s t = λ t w. kinds-of s t (each_at (term_rule s) (count s) t g.0 w) in
    let two : (t : ℕ) → kind s t ≡ 2 → Kinds s t = λ t q. h t (kind-term s t 1 q) in
    record {
      kinds = λ t w. (h t w).known;
      constants = λ t q. leb-true _ _ ((h t (kind-term s t 0 q)).one q);
      variables = λ t q. leb-true _ _ ((two t q).two q);
      long_names = λ t q. let z = both _ _ ((two t q).named q) in ltb-true _ _ z.0;
      unique_names = unique s h;
      two_parts = λ t q. leb-true _ _ (concat_of_lem s t ((h t (kind-term s t 2 q)).three q)).0;
      parts_good = λ t q. every_map (part_of s t) (all_every _ _ (concat_of_lem s t ((h t (kind-term s t 2 q)).three q)).1);
      concat_second = λ t q. eqb-true _ _ (concat_of_lem s t ((h t (kind-term s t 2 q)).three q)).2;
      length_first = λ t q. (length_of_term s t ((h t (kind-term s t 3 q)).four q)).0;
      length_lower = λ t q. ltb-true _ _ (length_of_term s t ((h t (kind-term s t 3 q)).four q)).1;
      length_second = λ t q. eqb-true _ _ (length_of_term s t ((h t (kind-term s t 3 q)).four q)).2;
      equation_sides = λ t q. (equation_of_lem s t ((h t (kind-term s t 4 q)).five q)).0;
      equation_first = λ t q. ltb-true _ _ (equation_of_lem s t ((h t (kind-term s t 4 q)).five q)).1;
      equation_second = λ t q. ltb-true _ _ (equation_of_lem s t ((h t (kind-term s t 4 q)).five q)).2;
      nexts = λ c w. next_of s c (each_at (cell_rule s) (length s.cells) c g.1 w);
      characters = f.1;
      reasons = r.1;
      keys = p.1;
    }

term_of : (s : Store) → Recorded s → (t : ℕ) → is_term s t ≡ true → term_rule s t ≡ true
unfolding text_rule concat_rule length_rule equation_rule
term_of s r t w = of-kinds s t (record {
  known = r.kinds t w;
  one = λ q. le-leb _ _ (r.constants t q);
  two = λ q. le-leb _ _ (r.variables t q);
  named = λ q. name_rule_lem s t (r.long_names t q) (λ u p e. r.unique_names t u q p e);
  three = λ q. both_true _ _ (both_true _ _ (le-leb _ _ (r.two_parts t q)) (every_all (every_map (of_part s t) (r.parts_good t q)))) (eq-eqb _ _ (r.concat_second t q));
  four = λ q. both_true _ _ (both_true _ _ (r.length_first t q) (lt-ltb _ _ (r.length_lower t q))) (eq-eqb _ _ (r.length_second t q));
  five = λ q. both_true _ _ (both_true _ _ (r.equation_sides t q) (lt-ltb _ _ (r.equation_first t q))) (lt-ltb _ _ (r.equation_second t q));
})

pub records_of : (s : Store) → Recorded s → records_rule s ≡ true
unfolding records_rule
records_of s r =
    both_true _ _ (both_true _ _ (both_true _ _ (both_true _ _ (each_all (term_rule s) (count s) (term_of s r)) (each_all (cell_rule s) (length s.cells) (λ c w. of-next s c (r.nexts c w))))
    r.characters) r.reasons) r.keys

-- CLASSES

alike_is : (a b : Bool) → (if a then b else not b) ≡ true → a ≡ b
alike_is true b e = sym e
alike_is false b e = sym (not-true b e)

is-alike : (a b : Bool) → a ≡ b → (if a then b else not b) ≡ true
is-alike true b e = sym e
is-alike false b e = rw (sym e)

module _ (s : Store) (t : ℕ) where
  alone_of : (u : ℕ) → alone_rule s t u ≡ true → is_string s t ≡ false → root s t ≡ root s u → t ≡ u
  unfolding alone_rule
  alone_of u e n q = ⊎_elim (λ p. ⊎_elim (λ r. clash r n) (λ r. eqb-true _ _ r) (either _ _ p)) (λ p. clash (eq-eqb _ _ q) (not-true _ p)) (either _ _ e)

  of-alone : (u : ℕ) → (is_string s t ≡ false → root s t ≡ root s u → t ≡ u) → alone_rule s t u ≡ true
  unfolding alone_rule
  of-alone u f = decide (is_string s t) (λ p. or_left _ _ (or_left _ _ p))
      (λ n. decide (same_class s t u) (λ p. or_left _ _ (or_right (is_string s t) _ (eq-eqb _ _ (f n (eqb-true _ _ p))))) (λ p. or_right (is_string s t || eqb t u) _ (rw p)))

  label_of : label_rule s t ≡ true → is_edge s t ≡ true → Label s t
  unfolding label_rule edge_label
  label_of e q = ⊎_elim (λ r. ⊎_elim (λ p. let z = both _ _ p in ⊎_elim (λ k. asserted (eqb-true _ _ k) z.1) (λ k. interface (eqb-true _ _ k) z.1) (either _ _ z.0))
      (λ k. congruence (eqb-true _ _ k)) (either _ _ r)) (λ p. let z = both _ _ p in definitional (eqb-true _ _ z.0) (eqb-true _ _ z.1)) (either _ _ (rw q at e))

  unlabelled-of : label_rule s t ≡ true → is_edge s t ≡ false → Unlabelled s t
  unfolding label_rule edge_label
  unlabelled-of e q = let z = each _ _ _ (rw q at e) in record { kind_is = eqb-true _ _ z.0; value_is = eqb-true _ _ z.1; stamp_is = eqb-true _ _ z.2 }

  of_label : (is_edge s t ≡ true → Label s t) → (is_edge s t ≡ false → Unlabelled s t) → label_rule s t ≡ true
  unfolding label_rule edge_label
  of_label f g = decide (is_edge s t) (λ q. rw q (some (f q))) (λ q. rw q (none (g q)))
    where
      some : Label s t → (((eqb (term s t).label_kind 1 || eqb (term s t).label_kind 2) && is_number (term s t).label_value) || eqb (term s t).label_kind 3 || (eqb (term s t).label_kind 4 && eqb (term s t).label_value 0)) ≡ true
      some (asserted k n) = rw (k, n)
      some (interface k n) = rw (k, n)
      some (congruence k) = rw k
      some (definitional k v) = rw (k, v)

      none : Unlabelled s t → (eqb (term s t).label_kind 0 && eqb (term s t).label_value 0 && eqb (term s t).stamp 0) ≡ true
      none u = rw (u.kind_is, u.value_is, u.stamp_is)

pub classed-of : (s : Store) → classes_rule s ≡ true → Classed s
unfolding classes_rule parents_rule ends_rule alike_rule
classed-of s e =
    let p = both _ _ e in
    let q = both _ _ p.0 in
    let r = both _ _ q.0 in
    let f = both _ _ r.0 in
    record {
      class_parents = λ t w. both_left _ _ (each_at (parents_rule s) (count s) t f.0 w);
      forest_parents = λ t w. both_right (is_term s (term s t).class_parent) _ (each_at (parents_rule s) (count s) t f.0 w);
      class_ends = λ t w. eqb-true _ _ (both_left _ _ (each_at (ends_rule s) (count s) t f.1 w));
      forest_ends = λ t w. eqb-true _ _ (both_right (eqb (term s (root s t)).class_parent (root s t)) _ (each_at (ends_rule s) (count s) t f.1 w));
      alike = λ t u w v. alike_is _ _ (each_at (alike_rule s t) (count s) u (each_at (λ x. each_term s (alike_rule s x)) (count s) t r.1 w) v);
      alone = λ t u w v. alone_of s t u (each_at (alone_rule s t) (count s) u (each_at (λ x. each_term s (alone_rule s x)) (count s) t p.1 w) v);
      labels = λ t w. label_of s t (each_at (label_rule s) (count s) t q.1 w);
      roots = λ t w. unlabelled-of s t (each_at (label_rule s) (count s) t q.1 w);
    }

pub classes-of : (s : Store) → Classed s → classes_rule s ≡ true
unfolding classes_rule parents_rule ends_rule alike_rule
classes-of s c =
    both_true _ _ (both_true _ _ (both_true _ _ (both_true _ _ (each_all (parents_rule s) (count s) (λ t w. both_true _ _ (c.class_parents t w) (c.forest_parents t w)))
    (each_all (ends_rule s) (count s) (λ t w. both_true _ _ (eq-eqb _ _ (c.class_ends t w)) (eq-eqb _ _ (c.forest_ends t w)))))
    (each_all (λ t. each_term s (alike_rule s t)) (count s) (λ t w. each_all (alike_rule s t) (count s) (λ u v. is-alike _ _ (c.alike t u w v)))))
    (each_all (label_rule s) (count s) (λ t w. of_label s t (c.labels t w) (c.roots t w))))
    (each_all (λ t. each_term s (alone_rule s t)) (count s) (λ t w. each_all (alone_rule s t) (count s) (λ u v. of-alone s t u (c.alone t u w v))))

-- CONGRUENCE EDGES

module _ (s : Store) where
  pairs_of_lem : (l : List (ℕ × ℕ)) (t u : ℕ) → pairs_of s l t u ≡ true → Pairs s l t u
  unfolding pairs_of
  pairs_of_lem l t u e = let z = both _ _ e in record { one = word_is _ _ z.0; other = word_is _ _ z.1 }

  of-pairs : (l : List (ℕ × ℕ)) (t u : ℕ) → Pairs s l t u → pairs_of s l t u ≡ true
  unfolding pairs_of
  of-pairs l t u h = both_true _ _ (word_same _ _ h.one) (word_same _ _ h.other)

  falls_of : (m : ℕ) (p : ℕ × ℕ) → falls_rule s m p ≡ true → Falls s m p
  unfolding falls_rule
  falls_of m p e = let z = both _ _ e in record { tree = eqb-true _ _ z.0; stamps = every_map (λ x. ltb-true _ _) (all_every _ _ z.1) }

  of-falls : (m : ℕ) (p : ℕ × ℕ) → Falls s m p → falls_rule s m p ≡ true
  unfolding falls_rule
  of-falls m p h = both_true _ _ (eq-eqb _ _ h.tree) (every_all (every_map (λ x. lt-ltb _ _) h.stamps))

  congruent_at : (t : ℕ) → congruence_rule s t ≡ true → Congruent s t
  unfolding congruence_rule
  congruent_at t e =
      let p = both _ _ e in
      let q = both _ _ p.0 in
      let r = both _ _ q.0 in
      record {
        child = eqb-true _ _ r.0;
        parent = eqb-true _ _ r.1;
        pairs = ⊎_elim (λ z. inl (pairs_of_lem _ _ _ z)) (λ z. inr (pairs_of_lem _ _ _ z)) (either _ _ q.1);
        falls = every_map (falls_of _) (all_every _ _ p.1);
      }

  at_congruent : (t : ℕ) → Congruent s t → congruence_rule s t ≡ true
  unfolding congruence_rule
  at_congruent t h =
      both_true _ _ (both_true _ _ (both_true _ _ (eq-eqb _ _ h.child) (eq-eqb _ _ h.parent))
      (⊎_elim (λ z. or_left _ _ (of-pairs _ _ _ z)) (λ z. or_right (pairs_of s _ _ _) _ (of-pairs _ _ _ z)) h.pairs)) (every_all (every_map (of-falls _) h.falls))

  pub congruences_of : congruences_rule s ≡ true → Congruences s
  unfolding congruences_rule
  congruences_of e t q k =
      ⊎_elim (λ z. clash (both_true _ _ q (eq-eqb _ _ k)) (not-true _ z)) (λ z. congruent_at t z)
      (either _ _ (each_at (λ x. not (is_congruence s x) || congruence_rule s x) (count s) t e (used (λ x. x.label_kind) refl s t 2 k)))

  pub congruent_of : Congruences s → congruences_rule s ≡ true
  unfolding congruences_rule
  congruent_of f = each_all (λ x. not (is_congruence s x) || congruence_rule s x) (count s) (λ t w. decide (is_congruence s t)
      (λ e. or_right (not (is_congruence s t)) _ (at_congruent t (f t (both_left _ _ e) (eqb-true _ _ (both_right (is_edge s t) _ e)))))
      (λ e. or_left _ _ (ap not e)))

-- THE AUDIT

pub passed : (s : Store) → audit_store s ≡ 0 → Roomy s → Audited s
unfolding audit_store
passed s e r = decide (records_rule s) (λ p. decide (classes_rule s) (λ q. decide (congruences_rule s)
    (λ z. record { roomy = r; recorded = recorded-of s p; classed = classed-of s q; congruences = congruences_of s z })
    (λ z. let w = rw (p, q, z) at e in absurd (omega arith))) (λ q. let w = rw (p, q) at e in absurd (omega arith))) (λ p. let w = rw p at e in absurd (omega arith))

pub passes : (s : Store) → Audited s → audit_store s ≡ 0
unfolding audit_store
passes s a = rw (records_of s a.recorded, classes-of s a.classed, congruent_of s a.congruences)

-- of two refusals neither is due
due_none : (j k : ℕ) → first_due j k ≡ 0 → (j ≡ 0) × (k ≡ 0)
due_none zero k e = (refl, e)
due_none (suc j) k e = absurd (omega arith)

index-passed : (l : List ℕ) (s : Store) → audit_index l s ≡ 0 → Indexed l s
unfolding audit_index
index-passed l s e = decide (index_rule l s) (says.passed s l) (λ z. let w = rw z at e in absurd (omega arith))

pub index-passes : (l : List ℕ) (s : Store) → Indexed l s → audit_index l s ≡ 0
unfolding audit_index
index-passes l s i = rw (says.passes s l i)

pub ready_of : (m : Lent) (c : State) → audit m c ≡ 0 → Ready m c
unfolding audit
ready_of m c e = decide (sizes m c)
    (λ z. let d = due_none (audit_store (store_of m c)) (audit_index m.terms (store_of m c)) (rw z at e) in
    record { sized = sized_of m c z; audited = passed (store_of m c) d.0 (roomy_of m c (sized_of m c z)); indexed = index-passed m.terms (store_of m c) d.1 })
    (λ z. let w = rw z at e in absurd (omega arith))

-- slices that keep their lengths are ready for new counts where the store is audited and indexed
pub ready-after : {m m' : Lent} {c c' : State} → Ready m c → length m'.terms ≡ length m.terms → length m'.cells ≡ length m.cells → Audited (store_of m' c') → Indexed m'.terms (store_of m' c') → Ready m' c'
ready-after {m} {m'} {c} {c'} r e f a i = record { sized = sized-after m m' c c' r.sized e f a.roomy; audited = a; indexed = i }

-- and those that keep what was counted keep their lengths
pub ready-later : {m m' : Lent} {c c' : State} → Ready m c → store_of m' c ≡ store_of m c → Audited (store_of m' c') → Indexed m'.terms (store_of m' c') → Ready m' c'
ready-later r e a i = ready-after r (ap (λ (s : Store). s.room.terms_long) e) (ap (λ (s : Store). s.room.cells_long) e) a i

-- the same store, heads and ninth words
pub ready-same : {m m' : Lent} {c c' : State} → Ready m c → store_of m' c' ≡ store_of m c → SameIndex m.terms m'.terms c.terms → Ready m' c'
ready-same {m} {m'} {c} {c'} r e i =
    let n : count (store_of m c) ≡ c.terms = table-length (λ j. term_at m.terms (suc j)) c.terms in
    ready-after r (ap (λ (s : Store). s.room.terms_long) e) (ap (λ (s : Store). s.room.cells_long) e) (subst Audited (sym e) r.audited)
    (indexed_records (records_same e) (subst (λ (k : ℕ). SameIndex m.terms m'.terms k) (sym n) i) r.indexed)

-- the same words, and counts that give the same store
pub ready_as : {m : Lent} {c c' : State} → Ready m c → store_of m c' ≡ store_of m c → Ready m c'
ready_as {m} {c} r e = ready-same r e (same_none m.terms c.terms)

-- slices of which no word of terms was written, and counts of which reasons, keys and names alone are others
pub ready-beside : {m m' : Lent} {c c' : State} → Ready m c → store_of m' c ≡ store_of m c → m'.terms ≡ m.terms → Audited (store_of m' c') → SameRecords (store_of m c) (store_of m' c') → Ready m' c'
ready-beside {m} {m'} {c} {c'} r e t a s =
    ready-later r e a (subst (λ (l : List ℕ). Indexed l (store_of m' c')) (sym t) (indexed_records s (same_none m.terms (count (store_of m c))) r.indexed))

pub audit-of : (m : Lent) (c : State) → Ready m c → audit m c ≡ 0
unfolding audit
audit-of m c r = rw (sizes_of m c r.sized, passes (store_of m c) r.audited) (index-passes m.terms (store_of m c) r.indexed)

-- a refusal leaves what the audit says: what was counted, lengths, heads and ninth words
pub audit-kept : (m m' : Lent) (c : State) → store_of m' c ≡ store_of m c → SameIndex m.terms m'.terms c.terms → audit m c ≡ 0 → audit m' c ≡ 0
audit-kept m m' c e i z = audit-of m' c (ready-same (ready_of m c z) e i)

-- the answer is the first place whose facts do not hold, and no other
pub verdict : (m : Lent) (c : State) → Verdict m c (audit m c)
unfolding audit audit_store audit_index
verdict m c = decide (sizes m c) (λ z. decide (records_rule s) (λ p. decide (classes_rule s) (λ q. decide (congruences_rule s)
    (λ e. decide (index_rule m.terms s) (λ i. rw (z, p, q, e, i) (ready (ready_of m c (audit-zero z p q e i))))
    (λ i. rw (z, p, q, e, i) (unindexed (sized_of m c z) (stored z p q e) (λ h. clash (says.passes s m.terms h) i))))
    (λ e. rw (z, p, q, e) (incongruent (sized_of m c z) (recorded-of s p) (classed-of s q) (λ h. clash (congruent_of s h) e))))
    (λ q. rw (z, p, q) (unclassed (sized_of m c z) (recorded-of s p) (λ h. clash (classes-of s h) q))))
    (λ p. rw (z, p) (unrecorded (sized_of m c z) (λ h. clash (records_of s h) p))))
    (λ z. rw z (short (λ h. clash (sizes_of m c h) z)))
  where
    s : Store
    s = store_of m c

    audit-zero : sizes m c ≡ true → records_rule s ≡ true → classes_rule s ≡ true → congruences_rule s ≡ true → index_rule m.terms s ≡ true → audit m c ≡ 0
    audit-zero z p q e i = rw (z, p, q, e, i)

    stored : sizes m c ≡ true → records_rule s ≡ true → classes_rule s ≡ true → congruences_rule s ≡ true → Audited s
    stored z p q e = record { roomy = roomy_of m c (sized_of m c z); recorded = recorded-of s p; classed = classed-of s q; congruences = congruences_of s e }

pub verdict_is : (m : Lent) (c : State) {k : ℕ} → Verdict m c k → audit m c ≡ k
unfolding audit audit_store audit_index
verdict_is m c (ready r) = audit-of m c r
verdict_is m c (short f) = rw (refuted (sizes m c) (sized_of m c) f)
verdict_is m c (unrecorded z f) = rw (sizes_of m c z, refuted (records_rule (store_of m c)) (recorded-of _) f)
verdict_is m c (unclassed z r f) = rw (sizes_of m c z, records_of _ r, refuted (classes_rule (store_of m c)) (classed-of _) f)
verdict_is m c (incongruent z r q f) = rw (sizes_of m c z, records_of _ r, classes-of _ q, refuted (congruences_rule (store_of m c)) (congruences_of _) f)
verdict_is m c (unindexed z a f) =
    rw (sizes_of m c z, passes (store_of m c) a, refuted (index_rule m.terms (store_of m c)) (says.passed (store_of m c) m.terms) f)
