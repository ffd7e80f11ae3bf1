pub mod Table
pub mod Rows
pub mod Said
