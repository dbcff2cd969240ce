pub mod Bounded
pub mod Counts
pub mod Rings
pub mod Movable
pub mod Looks
pub mod Crossing
