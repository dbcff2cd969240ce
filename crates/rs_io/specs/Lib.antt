pub mod Faults
pub mod Data
pub mod Calls
pub mod Prefix
pub mod Stops
