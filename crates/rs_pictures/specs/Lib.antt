pub mod Lines
pub mod Sequences
pub mod Machines
pub mod Drawing
pub mod Messages
