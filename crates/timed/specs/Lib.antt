pub mod Masks
pub mod Hours
pub mod Reached
pub mod Walk
pub mod AllDay
pub mod Below
pub mod Converted
