pub mod WideTree
pub mod Ordered
