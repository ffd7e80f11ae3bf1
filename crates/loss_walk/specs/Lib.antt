pub mod Losses
pub mod Entry
pub mod Gated
pub mod Charged
