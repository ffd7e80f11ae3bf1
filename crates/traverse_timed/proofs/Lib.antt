pub mod Begun
pub mod Steps
