pub mod Deepest
pub mod Levels
pub mod Steps
