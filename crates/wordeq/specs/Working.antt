-- Working definitions: what the contracts of working functions cite. No definition that a public contract cites is built on one of them.
pub mod Splits
pub mod Resolving
pub mod Propagates
pub mod Heads
