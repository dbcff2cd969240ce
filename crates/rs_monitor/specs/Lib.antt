pub mod Acts
pub mod Refusals
pub mod Nexts
pub mod Monitors
pub mod Sessions
pub mod Replays
pub mod Traces
