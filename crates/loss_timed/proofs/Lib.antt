pub mod Hours
pub mod AllDay
