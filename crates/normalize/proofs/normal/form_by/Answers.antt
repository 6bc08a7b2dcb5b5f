use Rattle.normalize.proofs.Refines.Forming.{one-string, one-done}
use Rattle.normalize.proofs.normal.form_by.Goals as goal

pub form_atoms-requires-clause-flat_strings : goal.form_atoms-requires-clause-flat_strings
form_atoms-requires-clause-flat_strings c =
    one-string c.requires.ready _ c.requires.t_string

pub returns-else-is_a : goal.returns-else-is_a
returns-else-is_a c =
    one-done c.requires.ready _ _ c.form_atoms.new.list c.form_atoms.result _ c.is_a.ensures
    c.if-is_a.false c.form_atoms.ensures
