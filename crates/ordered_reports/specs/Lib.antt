pub mod Alike
pub mod Ordering
