pub mod Taken
pub mod Pasts
pub mod Replays
pub mod Schedule
