pub mod Join
pub mod Steps
