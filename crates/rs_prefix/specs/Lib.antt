pub mod Earliest
pub mod Search
