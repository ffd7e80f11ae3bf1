pub mod Ends
pub mod Exponent
pub mod Padding
mod Steps
