pub mod Copies
pub mod Kinds
pub mod Messages
pub mod Monitors
pub mod Names
pub mod States
pub mod StatusTexts
pub mod Statuses
