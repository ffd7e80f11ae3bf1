pub mod Conversion
pub mod Answer
