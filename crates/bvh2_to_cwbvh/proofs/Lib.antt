pub mod Ready
pub mod Endings
pub mod Answers
pub mod Sizes
