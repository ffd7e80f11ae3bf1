pub mod AnyHit
pub mod Gather
