pub mod Rounds
pub mod Seated
pub mod Nodes
