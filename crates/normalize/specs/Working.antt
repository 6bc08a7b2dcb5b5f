-- Working definitions: what the contracts of working functions cite. No definition that a public contract cites is built on one of them.
pub mod Flat
pub mod Nodes
pub mod Pushes
pub mod Deeps
