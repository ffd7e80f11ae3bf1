pub mod Call
pub mod Tables
