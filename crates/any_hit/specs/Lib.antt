pub mod AnyHit
