pub mod Examples
pub mod Places
pub mod Canonical
pub mod ShapeWhole
pub mod Printed
pub mod Spelt
