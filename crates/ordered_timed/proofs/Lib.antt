pub mod Trees
pub mod Answered
pub mod Ordering
pub mod Queries
pub mod Lists
