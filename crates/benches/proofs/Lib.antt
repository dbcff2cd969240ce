pub mod BenchSessions
pub mod Safe
pub mod Plays
pub mod Sends
mod Acts
