pub mod Talking
pub mod Choosing
pub mod Data
pub mod Common
pub mod Talks
