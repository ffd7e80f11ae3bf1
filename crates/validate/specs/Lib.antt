pub mod Validity
pub mod Marks
