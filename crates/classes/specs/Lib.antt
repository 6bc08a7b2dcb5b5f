pub mod Merge
pub mod Joins
pub mod Marks
pub mod Calls
pub mod JoinCases
pub mod Working
