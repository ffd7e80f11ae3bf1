pub mod Walker
pub mod Calls
