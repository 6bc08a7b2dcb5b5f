pub mod Interface
pub mod Forms
pub mod Equations
pub mod Steps
pub mod Marks
pub mod Parts
pub mod Lengths
pub mod Working
