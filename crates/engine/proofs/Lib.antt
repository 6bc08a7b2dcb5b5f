mod Paths
mod Fits
mod Cites
mod Run
mod Walk
mod Equal
pub mod Sound
mod Refines
