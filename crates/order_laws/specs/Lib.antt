pub mod Seated
pub mod Nodes
