pub mod Floats
pub mod Left
pub mod Runs
