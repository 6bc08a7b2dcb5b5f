-- That the code meets its definitions: each way through a function, and the invariants of its loops. No other crate cites these.
pub mod SplitAtoms
pub mod PropagateMakes
pub mod EqualCalls
pub mod Flattening
pub mod ResolveCalls
pub mod Propagate
pub mod Choices
pub mod Heads
pub mod Steps
