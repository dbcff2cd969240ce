pub mod Endpoints
pub mod Lockers
