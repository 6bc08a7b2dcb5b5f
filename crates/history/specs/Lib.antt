pub mod History
pub mod Calls
pub mod Actual
pub mod HistoryCases
pub mod MarkCases
