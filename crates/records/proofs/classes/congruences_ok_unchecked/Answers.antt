use Rattle.records.proofs.Refines.HeightLaws.{heights_none}
use Rattle.records.proofs.classes.congruences_ok_unchecked.Goals as goal

pub edges_ok-requires-then-c-lt512-clause-heights : goal.edges_ok-requires-then-c-lt512-clause-heights
edges_ok-requires-then-c-lt512-clause-heights c = heights_none _ _ 512

pub edges_ok-requires-else-c-lt512-clause-heights : goal.edges_ok-requires-else-c-lt512-clause-heights
edges_ok-requires-else-c-lt512-clause-heights c = heights_none _ _ 2049
