use Rattle.records.proofs.Naming.{name_here, name_part, taken_is}
use Rattle.records.proofs.Refines.Making.{name_searchable}
use mathlib.Core.Path.{refl}
use Rattle.records.proofs.names.is_taken.Goals as goal

pub slice_bounds-name-end : goal.slice_bounds-name-end
slice_bounds-name-end c =
    name_here _ _ _ _ refl c.put_name-len.auto.name c.put_name-len.ensures

pub slice_bounds-find_text_unchecked-end : goal.slice_bounds-find_text_unchecked-end
slice_bounds-find_text_unchecked-end c =
    name_part _ _ _ _ refl c.put_name-len.auto.name c.put_name-len.ensures

pub find_text_unchecked-requires : goal.find_text_unchecked-requires
find_text_unchecked-requires c =
    name_searchable _ _ _ c.requires

pub returns : goal.returns
returns c =
    search taken_is
