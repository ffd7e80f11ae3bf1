pub mod Begun
pub mod AllDay
