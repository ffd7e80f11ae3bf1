pub mod Laws
pub mod Steps
pub mod Demands
pub mod WalkRay
pub mod Reach
pub mod Example
pub mod Runs
