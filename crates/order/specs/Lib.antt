pub mod Lists
pub mod Assign
pub mod Scan
pub mod Order
