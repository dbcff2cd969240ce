pub mod Sessions
pub mod Players
pub mod Working
pub mod Acts
