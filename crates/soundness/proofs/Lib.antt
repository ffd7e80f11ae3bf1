pub mod Range
pub mod Once
pub mod Sound
pub mod Subtree
