pub mod WellFormed
pub mod Faults
pub mod Checks
pub mod Examples
