pub mod Lengths
pub mod Lines
pub mod Samples
pub mod Words
