pub mod Record
pub mod Test
pub mod Check
