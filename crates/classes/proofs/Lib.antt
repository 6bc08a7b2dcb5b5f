mod MovedClimbs
mod Tables
pub mod Alike
mod Turning
pub mod Undoing
pub mod Appending
mod Between
mod Flips
mod Rounds
pub mod Cutting
pub mod Enough
pub mod Dividing
mod Under
mod Attaching
pub mod JoinKept
mod MergeKept
pub mod Undone
pub mod Marking
pub mod Tracking
pub mod AlikeMade
pub mod MarksLater
pub mod ReadyMarks
mod Refines
