pub mod Forced
pub mod Forces
pub mod Calls
pub mod ForcedCases
