pub mod Wide
pub mod Content
pub mod Sizes
pub mod Layout
pub mod Ranges
pub mod Conversion
pub mod Shape
pub mod Kept
