pub mod Wordeq
pub mod Meaning
pub mod Repeated
pub mod RepeatedCases
pub mod Working
