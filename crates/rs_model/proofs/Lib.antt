pub mod Lists
pub mod Chains
pub mod Faults
pub mod Order
pub mod Repeats
pub mod FirstFailed
pub mod EmptyValues
pub mod Serving
