pub mod Accepted
pub mod Below
