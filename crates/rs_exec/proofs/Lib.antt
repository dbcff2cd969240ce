pub mod NeverFull
pub mod Played
pub mod PlayedOn
pub mod Stayed
pub mod Waiting
pub mod Together
pub mod Handed
pub mod Spent
