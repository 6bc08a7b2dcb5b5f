-- Each answer of `audit`.
use mathlib.Core.Path.{◌≡◌, refl, sym, ◌∙◌}
use mathlib.Core.Bool.{Bool, true, false, not}
use mathlib.Core.List.{[]}
use Prim.Native.Nat.{ℕ, zero, suc, ◌+◌, ◌≤◌, ◌<◌}
use native.Mathlib.Omega.{arith}
use lib.ListN.{length}
use borrow.Author.Tests.{not-true, not-false}
use Rattle.records.proofs.Lists.{within_low, within-high}
use Rattle.records.specs.declared.State.{State}
use Rattle.records.specs.Store.{term, kind}
use Rattle.records.specs.View.{Lent, lent, store_of, records_in, sizes}
use Rattle.records.specs.Index.{numbers, index_rule}
use Rattle.records.specs.Rules.{records_rule, classes_rule, congruences_rule, audit_store, audit_index, audit}
use Rattle.records.specs.Working.Audited.{Sized, Recorded, Congruable}
use Rattle.records.specs.Working.Indexing.{Bucketed}
use Rattle.records.proofs.Refines.RuleLaws.{sized_of}
use Rattle.records.proofs.Refines.ClassLaws.{classes-seen}
use Rattle.records.proofs.Refines.PairLaws.{congruences-both, congruable}
use Rattle.records.proofs.Passed.{recorded-of, classed-of}

-- the buckets of a recorded store can be read
bucketed_of : (m : Lent) (c : State) → Recorded (store_of m c) → Bucketed (records_in m.terms m.cells m.chars c)
bucketed_of m c r = record { texts = λ t h. go t (kind (store_of m c) t) refl (within_low 2 _ h) (within-high 2 _ h); nexts = r.nexts }
  where
    go : (t k : ℕ) → kind (store_of m c) t ≡ k → 0 < k → k ≤ 2 → (term (store_of m c) t).first + (term (store_of m c) t).second ≤ length (store_of m c).chars
    go t zero e p q = absurd (omega arith)
    go t (suc zero) e p q = r.constants t e
    go t (suc (suc zero)) e p q = r.variables t e
    go t (suc (suc (suc k))) e p q = absurd (omega arith)

module _ (m : Lent) (c : State) (a : Bool) (i : a ≡ sizes m c) where
  pub audit-short : not a ≡ true → 1 ≡ audit m c
  unfolding audit
  audit-short h = sym (rw (sym i ∙ not-true a h))

  pub audit-sized : not a ≡ false → Sized m c
  audit-sized h = sized_of m c (sym i ∙ not-false a h)

  module _ (h : not a ≡ false) (b : Bool) (j : b ≡ records_rule (store_of m c)) where
    pub audit-unrecorded : not b ≡ true → 2 ≡ audit m c
    unfolding audit audit_store
    audit-unrecorded k = sym (rw (sym i ∙ not-false a h, sym j ∙ not-true b k))

    module _ (k : not b ≡ false) (d : Bool) (l : d ≡ classes_rule (store_of (lent m.terms [] [] [] []) c)) where
      pub audit-unclassed : not d ≡ true → 3 ≡ audit m c
      unfolding audit audit_store
      audit-unclassed n = sym (rw (sym i ∙ not-false a h, sym j ∙ not-false b k, sym (classes-seen m c) ∙ sym l ∙ not-true d n))

      pub audit_congruable : not d ≡ false → Congruable m.terms m.cells c
      audit_congruable n =
          congruable m c (audit-sized h) (recorded-of (store_of m c) (sym j ∙ not-false b k)) (classed-of (store_of m c) (sym (classes-seen m c) ∙ sym l ∙ not-false d n))

      module _ (n : not d ≡ false) (e : Bool) (o : e ≡ congruences_rule (store_of (lent m.terms m.cells [] [] []) c)) where
        pub audit-incongruent : not e ≡ true → 4 ≡ audit m c
        unfolding audit audit_store
        audit-incongruent p =
            sym (rw (sym i ∙ not-false a h, sym j ∙ not-false b k, sym (classes-seen m c) ∙ sym l ∙ not-false d n, sym (congruences-both m c) ∙ sym o ∙ not-true e p))

        -- what the audit of the index may rely on
        pub audit_bucketed : Bucketed (records_in m.terms m.cells m.chars c)
        audit_bucketed = bucketed_of m c (recorded-of (store_of m c) (sym j ∙ not-false b k))

        module _ (p : not e ≡ false) (x : Bool) (q : x ≡ index_rule m.terms (records_in m.terms m.cells m.chars c)) where
          index_is : x ≡ index_rule m.terms (store_of m c)
          unfolding index_rule numbers
          index_is = q

          pub audit-unindexed : not x ≡ true → 12 ≡ audit m c
          unfolding audit audit_store audit_index
          audit-unindexed r =
              sym (rw (sym i ∙ not-false a h, sym j ∙ not-false b k, sym (classes-seen m c) ∙ sym l ∙ not-false d n, sym (congruences-both m c) ∙ sym o ∙ not-false e p, sym index_is ∙ not-true x r))

          pub audit-passed : not x ≡ false → 0 ≡ audit m c
          unfolding audit audit_store audit_index
          audit-passed r =
              sym (rw (sym i ∙ not-false a h, sym j ∙ not-false b k, sym (classes-seen m c) ∙ sym l ∙ not-false d n, sym (congruences-both m c) ∙ sym o ∙ not-false e p, sym index_is ∙ not-false x r))
