-- That the code meets its definitions: each way through a function, and the invariants of its loops. No other crate cites these.
pub mod Alike
pub mod AddingReasons
pub mod Turning
pub mod Stripping
pub mod SideLetters
pub mod SideWalk
pub mod SideTexts
pub mod TileWalk
pub mod SideUnequal
pub mod ExplainingEach
pub mod Pairs
pub mod Elsewhere
pub mod LoneAtom
pub mod LackingPlaces
pub mod LackingSides
pub mod Fitting
pub mod TileCalls
