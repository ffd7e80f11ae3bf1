pub mod Limit
pub mod Terms
pub mod Signs
pub mod Passing
pub mod Wider
pub mod Reach
pub mod HitBits
