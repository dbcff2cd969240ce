pub mod Places
pub mod Likenesses
