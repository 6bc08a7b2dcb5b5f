use Rattle.std.proofs.lemmas.Grind.{common_steps}
use Rattle.std.proofs.Common.{arith}
use Rattle.records.proofs.Climbs.{view_class, view_forest}
use Rattle.classes.specs.Merge.{is_root_in}
use Rattle.classes.proofs.is_root.Goals as goal

pub returns-then-class_parent-t : goal.returns-then-class_parent-t
unfolding is_root_in
returns-then-class_parent-t c = grind (arith, common_steps, view_class, view_forest)

pub returns-else-class_parent-t : goal.returns-else-class_parent-t
unfolding is_root_in
returns-else-class_parent-t c = grind (arith, common_steps, view_class, view_forest)
