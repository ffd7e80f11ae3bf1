pub mod Range
pub mod Shape
pub mod Sound
pub mod Subtree
