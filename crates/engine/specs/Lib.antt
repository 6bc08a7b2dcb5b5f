pub mod Calls
pub mod Explain
pub mod Meaning
pub mod Working
