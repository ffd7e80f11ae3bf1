pub mod Written
pub mod Few
pub mod Walks
pub mod Copies
pub mod Answers
pub mod Found
