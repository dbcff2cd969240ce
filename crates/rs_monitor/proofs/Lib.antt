pub mod Letting
pub mod Refusing
pub mod Making
pub mod Reaching
