pub mod Data
pub mod Swaps
pub mod Swapping
pub mod Improved
pub mod Words
pub mod Attempts
pub mod Examples
