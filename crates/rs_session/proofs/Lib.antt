pub mod OneRole
pub mod HandedIn
pub mod Beginning
pub mod Telling
pub mod OneKind
