pub mod Equation
pub mod Calls
pub mod Working
