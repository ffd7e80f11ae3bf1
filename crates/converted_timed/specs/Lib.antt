pub mod Losses
pub mod Walks
