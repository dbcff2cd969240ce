pub mod Data
pub mod Stages
pub mod Acts
pub mod Ends
pub mod Standing
pub mod Leaving
