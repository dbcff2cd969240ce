pub mod Playing
pub mod Sending
pub mod Keeping
pub mod Embedded
