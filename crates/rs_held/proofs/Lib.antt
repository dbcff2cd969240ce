pub mod Copying
pub mod Explained
pub mod Keeping
pub mod Roles
pub mod Setting
pub mod Telling
