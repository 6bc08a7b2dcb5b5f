pub mod Flattened
pub mod Tests
mod Refines
