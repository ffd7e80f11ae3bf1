pub mod Joined
pub mod Refusals
