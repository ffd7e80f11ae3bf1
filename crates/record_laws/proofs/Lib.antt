pub mod ReadBack
pub mod Codes
pub mod Slots
pub mod Range
pub mod Bytes
pub mod ShapeRead
pub mod Rule
pub mod Words
