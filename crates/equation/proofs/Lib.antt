pub mod Sound
pub mod FewAtoms
mod Refines
