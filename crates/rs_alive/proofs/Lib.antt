pub mod Chains
pub mod Scheduled
pub mod Bound
pub mod TheMessage
pub mod Acting
pub mod Replaying
pub mod Following
pub mod Agreeing
