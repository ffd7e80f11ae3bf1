pub mod Spans
pub mod Refusals
pub mod SideTable
pub mod Left
pub mod ConvertedDay
