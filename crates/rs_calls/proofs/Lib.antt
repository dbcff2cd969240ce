mod Ending
pub mod Splitting
