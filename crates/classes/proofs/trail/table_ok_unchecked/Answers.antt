use Rattle.classes.proofs.Refines.MarkTables.{table-not, table_asks, table_is}
use Rattle.classes.proofs.trail.table_ok_unchecked.Goals as goal

pub congruences_ok_unchecked-requires : goal.congruences_ok_unchecked-requires
congruences_ok_unchecked-requires c = table_asks _ _ _ c.requires _ c.classes_ok_unchecked.ensures c.if-classes_ok_unchecked.true

pub returns-then-classes_ok_unchecked : goal.returns-then-classes_ok_unchecked
returns-then-classes_ok_unchecked c = table_is _ _ _ c.requires _ c.classes_ok_unchecked.ensures c.if-classes_ok_unchecked.true _ c.congruences_ok_unchecked.ensures

pub returns-else-classes_ok_unchecked : goal.returns-else-classes_ok_unchecked
returns-else-classes_ok_unchecked c = table-not _ _ _ c.requires _ c.classes_ok_unchecked.ensures c.if-classes_ok_unchecked.false
