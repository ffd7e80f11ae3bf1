pub mod Ones
pub mod Top
pub mod Fields
pub mod Le
pub mod Ors
pub mod Loaded
