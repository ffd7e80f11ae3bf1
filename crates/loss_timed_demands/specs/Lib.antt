pub mod Loss
pub mod Report
pub mod NotRefused
pub mod Refusals
pub mod ReportRefusals
