pub mod Bounds
pub mod Counts
pub mod Entered
