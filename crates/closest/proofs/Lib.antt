pub mod Counted
pub mod Distances
