-- One step along a chain, with every outcome.
use Rattle.std.specs.Prelude.{◌||◌, List, [], ◌∷◌, ℕ, length, eqb, ltb, if◌then◌else◌}
use Rattle.records.specs.Store.{Cell, cell_in, chain_in}
use Rattle.held.specs.declared.chains.Link.{Link}
use Rattle.held.specs.declared.chains.Link.TheVariants as link

-- 'next is above its own number': cell c gives its values where its next is 0 or above c, and not otherwise
unfoldable pub link_of : ℕ → Cell → Link
link_of c e = if eqb e.next 0 || ltb c e.next then link.Cell e.value e.other e.next else link.Back

-- '0 ends a chain'; a number past the count names no cell
unfoldable pub link_in : List Cell → ℕ → Link
link_in cs c = if eqb c 0 then link.End else (if ltb (length cs) c then link.Absent else link_of c (cell_in cs c))

-- the two values of each cell from a step on: 'A reader over one chain hands out its values'
abbrev pub values_from : List Cell → Link → List (ℕ × ℕ)
values_from cs (link.Cell v o x) = (v, o) ∷ chain_in cs x
values_from cs link.End = []
values_from cs link.Absent = []
values_from cs link.Back = []
