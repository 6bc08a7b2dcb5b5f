use Rattle.normalize.proofs.Refines.Forming.{form-passes, flat-strings, form-done}
use Rattle.normalize.proofs.FormReady.{ready_nested}
use Rattle.normalize.proofs.normal.form_flat.Goals as goal

pub flatten_unchecked-n-requires-clause-nested : goal.flatten_unchecked-n-requires-clause-nested
flatten_unchecked-n-requires-clause-nested c =
    ready_nested c.requires.ready

pub returns-then-n-gt-LIST_LIMIT : goal.returns-then-n-gt-LIST_LIMIT
returns-then-n-gt-LIST_LIMIT c =
    form-passes c.requires.ready _ _ _ _ c.flatten_unchecked-n.ensures c.if-n-gt-LIST_LIMIT.true _

pub form_atoms-requires-clause-flat_strings : goal.form_atoms-requires-clause-flat_strings
form_atoms-requires-clause-flat_strings c =
    flat-strings c.requires.ready _ _ _ _ c.flatten_unchecked-n.ensures c.if-n-gt-LIST_LIMIT.false c.requires.t_string

pub returns : goal.returns
returns c =
    form-done c.requires.ready _ _ _ _ c.flatten_unchecked-n.ensures c.if-n-gt-LIST_LIMIT.false _
    c.form_atoms.new.list c.form_atoms.result c.form_atoms.ensures
