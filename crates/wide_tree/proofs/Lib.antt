pub mod Slots
pub mod Gathered
pub mod WideTree
pub mod Positions
pub mod Boxes
pub mod Kept
pub mod Ordered
