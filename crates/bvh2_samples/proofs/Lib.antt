pub mod Calls
pub mod Causes
pub mod Depth
