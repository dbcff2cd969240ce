pub mod Fields
pub mod Handles
pub mod Owned
