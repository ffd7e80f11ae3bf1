pub mod CheckText
pub mod Held
