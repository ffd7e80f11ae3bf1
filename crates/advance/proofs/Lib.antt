pub mod Groups
pub mod Visits
pub mod Dues
pub mod Seeks
pub mod Shows
