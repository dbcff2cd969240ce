pub mod FullRings
pub mod Enough
pub mod Crossing
pub mod StuckCrossing
pub mod Stepping
pub mod Moving
