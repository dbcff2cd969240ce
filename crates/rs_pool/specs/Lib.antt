pub mod Jobs
pub mod Turns
pub mod Rule
pub mod Plays
pub mod Calls
pub mod Lists
pub mod Pool
