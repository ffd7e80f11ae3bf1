pub mod Loss
pub mod Report
pub mod SoundLoss
pub mod Refusals
pub mod ReportRefusals
