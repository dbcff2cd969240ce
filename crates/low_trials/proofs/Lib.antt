pub mod Guessed
