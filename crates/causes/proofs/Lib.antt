pub mod Causes
pub mod First
pub mod Refusals
pub mod Sizes
pub mod Least
