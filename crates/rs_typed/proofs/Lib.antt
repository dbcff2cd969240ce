pub mod Naturals
pub mod Safe
pub mod Telling
