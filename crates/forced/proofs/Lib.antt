mod Sums
mod Unfit
mod Refuted
pub mod ForcedLength
mod Refines
