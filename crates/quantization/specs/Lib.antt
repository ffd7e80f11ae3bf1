pub mod Ends
pub mod Exponent
