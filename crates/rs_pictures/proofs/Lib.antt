pub mod Pieces
pub mod Drawn
pub mod OnePicture
pub mod Arrows
pub mod States
pub mod PutOff
