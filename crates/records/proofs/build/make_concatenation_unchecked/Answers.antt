use Rattle.records.proofs.Refines.Builds.{parts_searchable, concat-old, concat-new}
use Rattle.records.proofs.build.make_concatenation_unchecked.Goals as goal

pub find_parts-t-requires : goal.find_parts-t-requires
find_parts-t-requires c =
    record {
      ascends = c.requires.ready.audited.recorded.nexts;
      searchable = parts_searchable _ _ _ c.requires.ready;
    }

pub returns-then-t-ne0 : goal.returns-then-t-ne0
returns-then-t-ne0 c =
    search concat-old

pub returns : goal.returns
returns c =
    search concat-new
