pub mod Slot
pub mod Mask
pub mod Parts
