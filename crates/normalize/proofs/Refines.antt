-- That the code meets its definitions: each way through a function, and the invariants of its loops. No other crate cites these.
pub mod Flats
pub mod Words
pub mod Pushing
pub mod Heaping
pub mod Replacing
pub mod Forming
pub mod Expanding
pub mod Rounding
pub mod FormCalls
