pub mod PutsOff
pub mod Draws
