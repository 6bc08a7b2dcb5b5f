use Rattle.std.proofs.Common.{rules}
use Rattle.records.proofs.IndexLaws.{search_walkable, search_first}
use Rattle.records.proofs.build.find_parts.Goals as goal

pub first_in-requires-clause-walkable : goal.first_in-requires-clause-walkable
first_in-requires-clause-walkable c = search_walkable _ _ _ _ c.requires.searchable _ (rw c.into.ensures at c.bucket_of-b.ensures)

pub returns : goal.returns
returns c = search_first _ _ _ _ c.requires.searchable _ (rw c.into.ensures at c.bucket_of-b.ensures) _ (c.first_in.ensures _ (λ t r q. search rules))
