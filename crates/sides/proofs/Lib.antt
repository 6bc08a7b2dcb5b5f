pub mod Words
pub mod StepOutcomes
pub mod Cited
pub mod Good
pub mod FrontOrEnd
pub mod FirstOfKind
pub mod Strip
mod OnePass
pub mod Occurs
pub mod Tile
mod Field
mod Constants
pub mod Counted
pub mod Decided
mod Split
pub mod Resolve
pub mod Equal
pub mod FewAtoms
pub mod Orelse
pub mod Trying
pub mod SideReady
pub mod ConstantSides
pub mod Residual
mod Refines
mod Kept
