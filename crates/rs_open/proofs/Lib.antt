pub mod Words
pub mod Opened
pub mod Runs
