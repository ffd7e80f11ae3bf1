pub mod Rearranged
pub mod Beside
pub mod Alike
pub mod Trees
pub mod Blocked
pub mod Ordering
