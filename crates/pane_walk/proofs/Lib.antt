pub mod Panes
pub mod Reactions
pub mod Queries
pub mod Searches
pub mod Starts
