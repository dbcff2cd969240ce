pub mod Flags
pub mod Turning
pub mod Growing
pub mod Ways
pub mod FirstOnes
pub mod Places
pub mod Rounds
pub mod Parted
