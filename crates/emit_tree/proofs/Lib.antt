pub mod Matching
pub mod Found
pub mod Rolling
pub mod Turns
pub mod Entering
pub mod Emitting
pub mod WholeTree
