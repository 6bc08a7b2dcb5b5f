-- Working definitions: what the contracts of working functions cite. No definition that a public contract cites is built on one of them.
pub mod Indexing
pub mod Label
pub mod Leaves
pub mod ClimbEnds
pub mod Hashes
pub mod Puts
pub mod Standard
pub mod Audited
pub mod Doing
pub mod Heights
