use Rattle.normalize.proofs.Refines.Forming.{ready_rooting, strings-within, more-table}
use Rattle.normalize.proofs.normal.form_atoms.Goals as goal

pub build_node_of-requires-clause-every : goal.build_node_of-requires-clause-every
build_node_of-requires-clause-every c =
    strings-within c.requires.ready _ c.requires.flat_strings

pub build_node_of-requires-clause-rooting : goal.build_node_of-requires-clause-rooting
build_node_of-requires-clause-rooting c =
    ready_rooting c.requires.ready

pub push_forms-requires-clause-candidates : goal.push_forms-requires-clause-candidates
push_forms-requires-clause-candidates c =
    more-table c.requires.ready _ _ _ c.requires.candidates c.requires.flat_strings _ c.build_node_of.ensures

pub push_forms-requires-else-flat-lt8-clause-candidates : goal.push_forms-requires-else-flat-lt8-clause-candidates
push_forms-requires-else-flat-lt8-clause-candidates c =
    more-table c.requires.ready _ _ _ c.requires.candidates c.requires.flat_strings _ c.build_node_of.ensures
