pub mod Endpoints
pub mod Handles
pub mod Monitors
pub mod Opens
pub mod Refusals
pub mod Sends
pub mod Sessions
