pub mod Boxes
pub mod Masks
