pub mod Empties
pub mod Meaning
pub mod Repeats
pub mod Calls
pub mod EmptyCases
pub mod Working
