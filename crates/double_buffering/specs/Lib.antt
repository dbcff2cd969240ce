pub mod Machines
pub mod Waiting
