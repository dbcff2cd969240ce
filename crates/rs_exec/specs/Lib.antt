pub mod Data
pub mod Tasks
pub mod TurnTakers
pub mod Polling
pub mod Runs
pub mod Hands
