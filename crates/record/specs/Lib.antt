pub mod Record
pub mod Children
