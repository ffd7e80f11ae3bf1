pub mod Charged
pub mod Adding
pub mod Causes
pub mod There
pub mod Faults
pub mod Reports
pub mod Written
pub mod Alike
