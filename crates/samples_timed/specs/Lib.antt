pub mod Screens
pub mod Losses
pub mod TimedSamples
