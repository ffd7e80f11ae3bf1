pub mod Bounds
pub mod Union
