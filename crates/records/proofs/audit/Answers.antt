use Rattle.records.proofs.Refines.Auditing.{audit-short, audit-sized, audit-unrecorded, audit-unclassed, audit_congruable, audit-incongruent, audit_bucketed, audit-unindexed, audit-passed}
use Rattle.records.proofs.audit.Goals as goal

pub returns-then-not-sizes : goal.returns-then-not-sizes
returns-then-not-sizes c =
    audit-short _ _ _ c.sizes.ensures c.if-not-sizes.true-raw

pub records_ok-requires : goal.records_ok-requires
records_ok-requires c =
    audit-sized _ _ _ c.sizes.ensures c.if-not-sizes.false-raw

pub returns-then-not-records_ok : goal.returns-then-not-records_ok
returns-then-not-records_ok c =
    audit-unrecorded _ _ _ c.sizes.ensures c.if-not-sizes.false-raw _ c.records_ok.ensures c.if-not-records_ok.true-raw

pub classes_ok_unchecked-requires : goal.classes_ok_unchecked-requires
classes_ok_unchecked-requires c =
    (audit-sized _ _ _ c.sizes.ensures c.if-not-sizes.false-raw).term_limited

pub returns-then-not-classes_ok_unchecked : goal.returns-then-not-classes_ok_unchecked
returns-then-not-classes_ok_unchecked c =
    audit-unclassed _ _ _ c.sizes.ensures c.if-not-sizes.false-raw _ c.records_ok.ensures c.if-not-records_ok.false-raw _
    c.classes_ok_unchecked.ensures c.if-not-classes_ok_unchecked.true-raw

pub congruences_ok_unchecked-requires : goal.congruences_ok_unchecked-requires
congruences_ok_unchecked-requires c =
    audit_congruable _ _ _ c.sizes.ensures c.if-not-sizes.false-raw _ c.records_ok.ensures c.if-not-records_ok.false-raw _
    c.classes_ok_unchecked.ensures c.if-not-classes_ok_unchecked.false-raw

pub returns-then-not-congruences_ok_unchecked : goal.returns-then-not-congruences_ok_unchecked
returns-then-not-congruences_ok_unchecked c =
    audit-incongruent _ _ _ c.sizes.ensures c.if-not-sizes.false-raw _ c.records_ok.ensures c.if-not-records_ok.false-raw _ c.classes_ok_unchecked.ensures
    c.if-not-classes_ok_unchecked.false-raw _ c.congruences_ok_unchecked.ensures c.if-not-congruences_ok_unchecked.true-raw

pub index_ok-requires : goal.index_ok-requires
index_ok-requires c =
    record {
      limited = let z = audit-sized _ _ _ c.sizes.ensures c.if-not-sizes.false-raw in
          z.term_limited;
      chars = let z = audit-sized _ _ _ c.sizes.ensures c.if-not-sizes.false-raw in
          z.char_room;
      bucketed = let z = audit-sized _ _ _ c.sizes.ensures c.if-not-sizes.false-raw in audit_bucketed _ _ _ c.sizes.ensures c.if-not-sizes.false-raw _ c.records_ok.ensures c.if-not-records_ok.false-raw _ c.classes_ok_unchecked.ensures
          c.if-not-classes_ok_unchecked.false-raw _ c.congruences_ok_unchecked.ensures;
    }

pub returns-then-not-index_ok : goal.returns-then-not-index_ok
returns-then-not-index_ok c =
    audit-unindexed _ _ _ c.sizes.ensures c.if-not-sizes.false-raw _ c.records_ok.ensures c.if-not-records_ok.false-raw _
    c.classes_ok_unchecked.ensures c.if-not-classes_ok_unchecked.false-raw _ c.congruences_ok_unchecked.ensures
    c.if-not-congruences_ok_unchecked.false-raw _ c.index_ok.ensures c.if-not-index_ok.true-raw

pub returns : goal.returns
returns c =
    audit-passed _ _ _ c.sizes.ensures c.if-not-sizes.false-raw _ c.records_ok.ensures c.if-not-records_ok.false-raw _
    c.classes_ok_unchecked.ensures c.if-not-classes_ok_unchecked.false-raw _ c.congruences_ok_unchecked.ensures
    c.if-not-congruences_ok_unchecked.false-raw _ c.index_ok.ensures c.if-not-index_ok.false-raw
