pub mod Data
pub mod Starts
pub mod Places
pub mod Finding
pub mod Beginnings
