pub mod Fields
pub mod HighestBit
pub mod Le
pub mod Masks
pub mod Ors
pub mod Ranks
pub mod Upto
