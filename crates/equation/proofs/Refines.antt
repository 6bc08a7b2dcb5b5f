-- That the code meets its definitions: each way through a function, and the invariants of its loops. No other crate cites these.
pub mod StepCalls
