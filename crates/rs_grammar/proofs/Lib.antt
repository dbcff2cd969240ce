pub mod Samples
pub mod Deciding
pub mod Spelling
pub mod Ending
pub mod OneTree
pub mod Judged
pub mod Exact
