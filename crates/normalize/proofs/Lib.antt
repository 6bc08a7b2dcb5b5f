mod Represents
pub mod Atoms
mod FormOutcomes
mod Rewritten
pub mod Formed
pub mod Deep
pub mod Carried
pub mod Candidates
pub mod FormReady
pub mod ListCalls
mod Refines
