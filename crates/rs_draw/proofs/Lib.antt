pub mod Accepting
pub mod Answered
pub mod OneDrawing
