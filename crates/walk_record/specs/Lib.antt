pub mod Record
pub mod WalkRay
pub mod Walk
