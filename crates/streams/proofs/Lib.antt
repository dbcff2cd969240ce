mod First
mod Flowing
mod Waiting
