pub mod Lists
pub mod Answers
pub mod Converted
pub mod Timed
pub mod Queries
pub mod Reports
pub mod Joins
pub mod Walkers
