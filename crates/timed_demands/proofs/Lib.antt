pub mod Listed
pub mod Entry
pub mod AllDay
pub mod Runs
pub mod Brought
pub mod NoOther
pub mod Steps
pub mod Filtered
