pub mod Finding
pub mod Joins
pub mod Near
pub mod Least
pub mod Toward
pub mod StillOwed
