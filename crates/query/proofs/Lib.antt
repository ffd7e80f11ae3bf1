pub mod Leads
pub mod Skips
pub mod Gated
pub mod Gathers
pub mod Begins
pub mod Entry
pub mod Starts
