pub mod Compare
pub mod Magnitude
pub mod PowerOfTwo
pub mod Sign
