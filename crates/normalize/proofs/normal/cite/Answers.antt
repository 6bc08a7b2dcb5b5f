use Rattle.normalize.proofs.Refines.Replacing.{cite-same, cite-other}
use Rattle.normalize.proofs.normal.cite.Goals as goal

pub returns-then-r-a : goal.returns-then-r-a
returns-then-r-a c =
    cite-same c.requires.ready _ _ c.if-r-a.true

pub returns-else-r-a : goal.returns-else-r-a
returns-else-r-a c =
    cite-other _ _ c.if-r-a.false c.explain_unchecked.ensures
