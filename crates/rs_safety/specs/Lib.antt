pub mod Sessions
pub mod Room
pub mod Figures
pub mod Accepting
pub mod Alike
pub mod Examples
pub mod Buffering
pub mod Waiting
