pub mod Table
pub mod Front
pub mod Under
pub mod Corner
pub mod Seen
pub mod Found
pub mod Written
