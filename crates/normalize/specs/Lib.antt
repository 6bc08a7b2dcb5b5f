pub mod Normalize
pub mod Meaning
pub mod Calls
pub mod Working
