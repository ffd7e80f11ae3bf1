pub mod Cleared
pub mod Room
pub mod Filled
pub mod Causes
pub mod Refilled
pub mod Prepared
