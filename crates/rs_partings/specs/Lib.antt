pub mod Partings
pub mod Meeting
pub mod Waiting
pub mod Flags
pub mod Rows
pub mod Searching
