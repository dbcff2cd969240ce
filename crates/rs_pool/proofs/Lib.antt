mod Sums
mod Known
mod Acts
mod Bounds
mod Turned
mod TurnsMade
mod Lists
mod Endings
mod Beginnings
mod Looks
pub mod Alike
