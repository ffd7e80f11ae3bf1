pub mod Checked
pub mod Losses
pub mod Walks
