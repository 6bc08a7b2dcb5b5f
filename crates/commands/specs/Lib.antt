pub mod Texts
pub mod Utf8
pub mod Commands
pub mod CommandCases
pub mod Answers
pub mod AnswerCases
pub mod Working
