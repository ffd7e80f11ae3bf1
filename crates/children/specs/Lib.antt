pub mod Gather
pub mod Tabled
pub mod Branches
