pub mod Calls
pub mod Walks
