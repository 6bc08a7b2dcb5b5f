mod Unmet
mod Form
mod Listed
mod Repeating
pub mod EmptyParts
mod Refines
