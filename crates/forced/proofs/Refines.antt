-- That the code meets its definitions: each way through a function. No other crate cites these.
pub mod ForcedLengthCalls
