pub mod DemoSessions
pub mod Demos
pub mod Pools
pub mod Ready
pub mod RunSessions
pub mod Runs
pub mod TranscriptTexts
