use Rattle.normalize.proofs.Refines.Forming.{ready_rooting, strings-within, known-table, list-strings}
use lib.ListN.{replicate, get_or-replicate}
use mathlib.Core.Path.{refl}
use Rattle.normalize.proofs.deeper.known_table_unchecked.Goals as goal

pub build_node_of-requires-clause-every : goal.build_node_of-requires-clause-every
build_node_of-requires-clause-every c =
    strings-within c.requires.ready _ (list-strings c.requires.ready _ c.requires.known_value)

pub build_node_of-requires-clause-rooting : goal.build_node_of-requires-clause-rooting
build_node_of-requires-clause-rooting c =
    ready_rooting c.requires.ready

pub returns : goal.returns
returns c =
    known-table c.requires.ready _ (replicate 513 0) c.requires.known_value refl (λ i h. get_or-replicate 513 i 0 0 h) _ c.build_node_of.ensures
