-- That the code meets its definitions: each way through a function, and the invariants of its loops. No other crate cites these.
pub mod Merge
pub mod Carrying
pub mod CarryWords
pub mod JoinWords
pub mod Trails
pub mod Counting
pub mod MarkTables
pub mod AuditMarks
pub mod Calling
pub mod PublicCalls
