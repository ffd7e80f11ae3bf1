pub mod Rule
pub mod Tells
pub mod Words
