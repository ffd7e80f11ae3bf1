pub mod Gather
pub mod Deeper
pub mod Steps
pub mod Branches
pub mod Reread
pub mod Start
pub mod Accepted
