-- That the code meets its definitions: each way through a function, and the invariants of its loops. No other crate cites these.
pub mod Listing
pub mod Bits
pub mod Turns
pub mod Rises
pub mod Starts
pub mod Plainly
pub mod EngineCalls
