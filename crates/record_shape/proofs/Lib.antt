pub mod Placed
pub mod Test
pub mod Record
pub mod Check
pub mod Tree
pub mod Example
