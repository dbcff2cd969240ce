pub mod Acts
pub mod Rounds
pub mod Lines
pub mod Draws
