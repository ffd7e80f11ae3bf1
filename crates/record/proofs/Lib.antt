pub mod Joined
pub mod Length
pub mod Written
pub mod Children
