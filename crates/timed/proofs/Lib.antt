pub mod Listed
pub mod NoOther
pub mod AllDay
pub mod Covered
pub mod Filtered
pub mod Steps
pub mod ConvertedDay
